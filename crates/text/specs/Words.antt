-- Words, as the octets of their characters.
use Rattle.std.specs.Prelude.{List, [] as none, ◌∷◌ as ◌then◌, ℕ}
use Prim.Native.Char.{code}
use Prim.Native.String.{String, [], ◌∷◌}

unfoldable pub text_of : String → List ℕ
text_of [] = none
text_of (c ∷ s) = code c then text_of s
