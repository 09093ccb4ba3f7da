-- The counts of a mode: a stream holds at most 640 bits of a frame.
use Prim.Native.Nat.{◌≤◌}
use native.Mathlib.Omega.{arith}
use Rattle.modes.specs.Owners.{held_by, bits_per_frame}
use Rattle.modes.specs.declared.Mode.{Mode}
use Rattle.modes.specs.declared.Owner.{Owner}
use Rattle.modes.specs.declared.Owner.TheVariants.{Voice, Lsd}
use Rattle.modes.proofs.OwnerLaws.{held_fit, bits_per_frame_is}
use Rattle.table.proofs.TableLaws.{Fit}
use Rattle.asking.proofs.CountsFromMode.from.Goals as goal

few : (m : Mode) (o : Owner) → bits_per_frame (held_by m o) ≤ 640
few m o =
    let p = held_by m o in
    let f : Fit p = held_fit m o in
    omega (arith, bits_per_frame_is p f, f.ends, f.closes)

pub overflow_mul-result : goal.overflow_mul-result
overflow_mul-result c = omega (arith, c.bits_per_frame-voice.ensures, few c.args.mode Voice)

pub overflow_mul-result-2 : goal.overflow_mul-result-2
overflow_mul-result-2 c = omega (arith, c.bits_per_frame-lsd.ensures, few c.args.mode Lsd)
