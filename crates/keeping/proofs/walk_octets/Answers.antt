-- `keeping::walk_octets` meets its contract: the place goes as eight octets, the lowest first.
use Rattle.keeping.proofs.SavedWalkLaws.{place_written}
use Rattle.keeping.proofs.walk_octets.Goals as goal

pub returns : goal.returns
returns c =
    rw (c.copy_from_slice.ensures.after, c.reader_octets.ensures, c.copy_from_slice-2.ensures.after, c.to_le_bytes.ensures, place_written c.args.state.place)
