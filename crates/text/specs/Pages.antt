-- A piece written on a page: over the page's buffer, from its place on.
use Rattle.std.specs.Prelude.{◌≡◌, List, ℕ}
use Rattle.text.specs.Over.{Written}
use Rattle.text.specs.declared.Page.{Page}

-- a piece went on a page, which still holds the buffer that it held
pub record Wrote (was : Page) (piece : List ℕ) (is : Page) : Type 0 where
  pub same_buffer : is.octets.ghost_name ≡ was.octets.ghost_name
  pub written : Written was.place piece was.octets.now is.place is.octets.now
