-- `halves::data_eights` meets its contract: a law for each run.
use mathlib.Core.List.{List, []}
use mathlib.Core.Logic.{inl, inr}
use mathlib.Core.Path.{◌≡◌, refl, ap, ◌∙◌}
use Prim.Native.Nat.{ℕ, ◌+◌, ◌-◌, ◌*◌, ◌/◌, ◌≤◌}
use native.Mathlib.Omega.{arith}
use lib.ListN.{length, get_or, take, drop}
use Rattle.eights.specs.Eight.{raised_by}
use Rattle.bits.specs.Bits.{bits_of}
use Rattle.halves.specs.Parts.{word_at, tail_at}
use Rattle.halves.proofs.TailLaws.{by_runs, columns_to, columns_le, laid-before, laid-after, octets_on}
use Rattle.halves.proofs.data_eights.Goals as goal

columns_on : (xs : List ℕ) (c i m : ℕ) → raised_by c 1 1 (drop (8 * m) (bits_of (take (length xs - i) (drop i xs)))) ≡ raised_by c 1 1 (drop (8 * (i + m)) (bits_of xs))
columns_on xs c i m = ap (raised_by c 1 1) (octets_on xs i m)

pub returns-then-p : goal.returns-then-p
returns-then-p c =
    λ k l.
    c.lay.ensures.1 k (omega arith) l
    ∙ columns_on c.args.lsd.now c.args.p.columns (c.args.d / 8) ((k - 0) * c.args.p.columns)
    ∙ laid-before c.args.p (bits_of c.args.lsd.now) k c.args.d c.requires.apart c.requires.lsd_len.2 (inl (omega arith))

pub lay-requires-2 : goal.lay-requires-2
lay-requires-2 c =
    let p = c.args.p in
    let a = (p.first - 1) / 8 in
    let ten : a ≤ 10 = omega (arith, c.requires.apart.runs, c.requires.apart.until) in
    record {
      run_in = (omega arith, ten);
      n_in_bounds = omega (arith, columns_to p.columns 0 a (omega arith), columns_le p.columns a (omega arith) ten);
    }

pub overflow_mul-b : goal.overflow_mul-b
overflow_mul-b c =
    let p = c.args.p in
    let b = (p.last + 7) / 8 in
    omega (arith, columns_le p.columns b (omega arith) (omega arith))

pub overflow_add-j : goal.overflow_add-j
overflow_add-j c =
    let p = c.args.p in
    let b = (p.last + 7) / 8 in
    omega (arith, columns_le p.columns b (omega arith) (omega arith))

pub overflow_add-j-2 : goal.overflow_add-j-2
overflow_add-j-2 c =
    let p = c.args.p in
    let b = (p.last + 7) / 8 in
    omega (arith, columns_le p.columns b (omega arith) (omega arith))

pub lay-requires-3 : goal.lay-requires-3
lay-requires-3 c =
    let p = c.args.p in
    let b = (p.last + 7) / 8 in
    let ten : b ≤ 10 = omega (arith, c.requires.apart.until) in
    record {
      run_in = (ten, omega arith);
      n_in_bounds = omega (arith, c.requires.apart.after, columns_to p.columns b 10 ten);
    }

pub returns : goal.returns
returns c =
    let ok = c.requires.apart in
    let p = c.args.p in
    let d = c.args.d in
    let a = (p.first - 1) / 8 in
    let b = (p.last + 7) / 8 in
    let bits = bits_of c.args.lsd.now in
    let before = c.lay-2.ensures in
    let own = c.own_eights.ensures in
    let after = c.lay-3.ensures in
    by_runs (λ k. get_or c.lay-3.new.lanes k 0) (word_at (tail_at p [] (drop d bits))) a b
    (λ k l. after.0 k (omega (arith, ok.runs)) ∙ own.0 k l ∙ before.1 k (omega arith) l
    ∙ columns_on c.args.lsd.now p.columns (d / 8) ((k - 0) * p.columns) ∙ laid-before p bits k d ok c.requires.lsd_len.2 (inr l))
    (λ k l m. after.0 k m ∙ own.1 k l m)
    (λ k l m. after.1 k l m
    ∙ columns_on c.args.lsd.now p.columns (d / 8 + b * p.columns + (b - a)) ((k - b) * p.columns) ∙ laid-after p bits a b k d ok c.requires.lsd_len.2 refl refl l)
