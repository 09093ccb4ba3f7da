-- `buffers::lengths_fit` meets its contract: code and definition are one expression.
use mathlib.Core.Path.{refl}
use Rattle.buffers.specs.Lengths.{fitting}
use Rattle.buffers.proofs.lengths_fit.Goals as goal

pub returns : goal.returns
unfolding fitting
returns c = refl
