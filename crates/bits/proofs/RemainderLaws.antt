-- The facts of a remainder, shown once for every width k = length g and every generator X^k + g.
use mathlib.Core.Path.{◌≡◌, refl, sym, ap, ap₂, ◌∙◌}
use mathlib.Core.Bool.{Bool, true, false, xor}
use mathlib.Core.List.{List, [], ◌∷◌, ◌++◌, append_assoc, append-nil, head-eq_of_cons-eq, tail-eq_of_cons-eq}
use Prim.Native.Nat.{ℕ, zero, suc, ◌+◌, ◌*◌, ◌<◌}
use native.Mathlib.Nat.{suc_inj, suc-ne-zero, add_comm, zero-add, suc-add, mul-zero, mul-suc}
use native.Mathlib.Numerals.{add-one}
use native.Mathlib.Omega.{arith}
use lib.ListN.{length, length-append, length-replicate, replicate-append-replicate}
use Rattle.bits.specs.Bits.{zeros, xors}
use Rattle.bits.specs.Remainder.{scaled, fed, continued, remainder, product, Leaves}
use Rattle.bits.proofs.BoolLaws.{xor_comm, xor_assoc, xor-false}
use Rattle.bits.proofs.BitLaws.{xors_comm, xors_assoc, xors_medial, length-xors, xors-zeros, xors_self, xors_cancel, xors-append}

-- ---- the register keeps its width
length-scaled : (b : Bool) (g : List Bool) → length (scaled b g) ≡ length g
unfolding scaled
length-scaled true g = refl
length-scaled false g = length-replicate (length g) false

-- one place up: as long as before
length_up : (r : Bool) (rs : List Bool) → length (rs ++ (false ∷ [])) ≡ length (r ∷ rs)
length_up r rs = length-append rs (false ∷ []) ∙ add-one (length rs)

pub length-fed : (g r : List Bool) (b : Bool) → length r ≡ length g → length (fed g r b) ≡ length g
unfolding fed
length-fed g [] b h = h
length-fed g (r ∷ rs) b h =
    length-xors (rs ++ (false ∷ [])) (scaled (xor r b) g) (length_up r rs ∙ h ∙ sym (length-scaled (xor r b) g)) ∙ length_up r rs ∙ h

pub length-continued : (g r m : List Bool) → length r ≡ length g → length (continued g r m) ≡ length g
unfolding continued
length-continued g r [] h = h
length-continued g r (b ∷ bs) h = length-continued g (fed g r b) bs (length-fed g r b h)

pub length-remainder : (g m : List Bool) → length (remainder g m) ≡ length g
unfolding remainder
length-remainder g m = length-continued g (zeros (length g)) m (length-replicate (length g) false)

-- ---- a message in two parts
pub continued-append : (g r m n : List Bool) → continued g r (m ++ n) ≡ continued g (continued g r m) n
unfolding continued
continued-append g r [] n = refl
continued-append g r (b ∷ bs) n = continued-append g (fed g r b) bs n

pub remainder-append : (g m n : List Bool) → remainder g (m ++ n) ≡ continued g (remainder g m) n
unfolding remainder
remainder-append g m n = continued-append g (zeros (length g)) m n

-- ---- linearity
scaled-xor : (a b : Bool) (g : List Bool) → scaled (xor a b) g ≡ xors (scaled a g) (scaled b g)
unfolding scaled xor
scaled-xor true true g = sym (xors_self g)
scaled-xor true false g = sym (xors-zeros g (length g) refl)
scaled-xor false true g = sym (xors_comm (zeros (length g)) g ∙ xors-zeros g (length g) refl)
scaled-xor false false g = sym (xors-zeros (zeros (length g)) (length g) (length-replicate (length g) false))

xor_medial : (a b c d : Bool) → xor (xor a b) (xor c d) ≡ xor (xor a c) (xor b d)
xor_medial a b c d =
    xor_assoc a b (xor c d)
    ∙ ap (xor a) (sym (xor_assoc b c d) ∙ ap (λ (l : Bool). xor l d) (xor_comm b c) ∙ xor_assoc c b d)
    ∙ sym (xor_assoc a c (xor b d))

fed-xor : (g r s : List Bool) (a b : Bool) → length r ≡ length s → fed g (xors r s) (xor a b) ≡ xors (fed g r a) (fed g s b)
unfolding fed xors xor
fed-xor g [] s a b h = refl
fed-xor g (r ∷ rs) [] a b h = absurd (suc-ne-zero _ h)
fed-xor g (r ∷ rs) (s ∷ ss) a b h =
    ap₂ xors
    (sym (xors-append rs ss (false ∷ []) (false ∷ []) (suc_inj h)))
    (ap (λ (t : Bool). scaled t g) (xor_medial r s a b) ∙ scaled-xor (xor r a) (xor s b) g)
    ∙ xors_medial (rs ++ (false ∷ [])) (ss ++ (false ∷ [])) (scaled (xor r a) g) (scaled (xor s b) g)

pub continued-xor : (g r s m n : List Bool) → length r ≡ length g → length s ≡ length g → length m ≡ length n
    → continued g (xors r s) (xors m n) ≡ xors (continued g r m) (continued g s n)
unfolding continued xors
continued-xor g r s [] [] hr hs h = refl
continued-xor g r s [] (y ∷ ys) hr hs h = absurd (suc-ne-zero _ (sym h))
continued-xor g r s (x ∷ xs) [] hr hs h = absurd (suc-ne-zero _ h)
continued-xor g r s (x ∷ xs) (y ∷ ys) hr hs h =
    ap (λ (l : List Bool). continued g l (xors xs ys)) (fed-xor g r s x y (hr ∙ sym hs))
    ∙ continued-xor g (fed g r x) (fed g s y) xs ys (length-fed g r x hr) (length-fed g s y hs) (suc_inj h)

pub remainder-xor : (g m n : List Bool) → length m ≡ length n → remainder g (xors m n) ≡ xors (remainder g m) (remainder g n)
unfolding remainder
remainder-xor g m n h =
    let z : length (zeros (length g)) ≡ length g = length-replicate (length g) false in
    ap (λ (r : List Bool). continued g r (xors m n)) (sym (xors-zeros (zeros (length g)) (length g) z))
    ∙ continued-xor g (zeros (length g)) (zeros (length g)) m n z z h

-- ---- zeros
zeros-up : (k : ℕ) → zeros k ++ (false ∷ []) ≡ zeros (suc k)
zeros-up zero = refl
zeros-up (suc k) = ap (λ (l : List Bool). false ∷ l) (zeros-up k)

fed-zeros : (g : List Bool) → fed g (zeros (length g)) false ≡ zeros (length g)
unfolding fed scaled xor
fed-zeros [] = refl
fed-zeros (c ∷ g) =
    ap (λ (l : List Bool). xors l (zeros (length (c ∷ g)))) (zeros-up (length g))
    ∙ xors-zeros (zeros (suc (length g))) (suc (length g)) (length-replicate (suc (length g)) false)

pub remainder-zeros : (g : List Bool) (n : ℕ) → remainder g (zeros n) ≡ zeros (length g)
unfolding remainder continued
remainder-zeros g zero = refl
remainder-zeros g (suc n) = ap (λ (r : List Bool). continued g r (zeros n)) (fed-zeros g) ∙ remainder-zeros g n

pub remainder-after-zeros : (g m : List Bool) (n : ℕ) → remainder g (zeros n ++ m) ≡ remainder g m
unfolding remainder
remainder-after-zeros g m n = remainder-append g (zeros n) m ∙ ap (λ (l : List Bool). continued g l m) (remainder-zeros g n)

-- ---- it is the remainder: message · X^k = quotient · (X^k + g) + remainder, and no other list of k bits is
-- the quotient's bits are what the register and the message add up to at the top
top : List Bool → Bool → Bool
top [] b = b
top (r ∷ rs) b = xor r b

quotient : List Bool → List Bool → List Bool → List Bool
quotient g r [] = []
quotient g r (b ∷ bs) = top r b ∷ quotient g (fed g r b) bs

length-quotient : (g r m : List Bool) → length (quotient g r m) ≡ length m
unfolding quotient
length-quotient g r [] = refl
length-quotient g r (b ∷ bs) = ap suc (length-quotient g (fed g r b) bs)

scaled-cons : (t : Bool) (g : List Bool) → scaled t (true ∷ g) ≡ t ∷ scaled t g
unfolding scaled
scaled-cons true g = refl
scaled-cons false g = refl

length-zeros : (k : ℕ) → length (zeros k) ≡ k
length-zeros k = length-replicate k false

length-line : (t : Bool) (g : List Bool) (n : ℕ) → length (scaled t g ++ zeros n) ≡ n + length g
length-line t g n = rw (length-append (scaled t g) (zeros n), length-scaled t g, length-zeros n) (add_comm (length g) n)

-- one line of the school's method: the product's first bit, and what is left
product-cons : (g q : List Bool) (t : Bool) → product g (t ∷ q) ≡ t ∷ xors (scaled t g ++ zeros (length q)) (product g q)
unfolding product xors
product-cons g q t =
    ap (λ (l : List Bool). xors (l ++ zeros (length q)) (false ∷ product g q)) (scaled-cons t g)
    ∙ ap (λ (b : Bool). b ∷ xors (scaled t g ++ zeros (length q)) (product g q)) (xor-false t)

product-line : (g q d : List Bool) (t : Bool)
    → xors (product g (t ∷ q)) (false ∷ d) ≡ t ∷ xors (scaled t g ++ zeros (length q)) (xors (product g q) d)
unfolding xors
product-line g q d t =
    ap (λ (l : List Bool). xors l (false ∷ d)) (product-cons g q t)
    ∙ ap₂ ◌∷◌ (xor-false t) (xors_assoc (scaled t g ++ zeros (length q)) (product g q) d)

length-product : (g q : List Bool) → length (product g q) ≡ length q + length g
length-product g [] = let h : length (product g []) ≡ length g = unfold product in length-zeros (length g) in h ∙ sym (zero-add (length g))
length-product g (b ∷ q) =
    let h : length (scaled b g ++ zeros (length q)) ≡ length q + length g = length-line b g (length q) in
    ap length (product-cons g q b)
    ∙ ap suc (length-xors (scaled b g ++ zeros (length q)) (product g q) (h ∙ sym (length-product g q)) ∙ h)
    ∙ sym (suc-add (length q) (length g))

-- one line of the division: the line t · g is taken away, and comes back with the product
line : (g rs bs p : List Bool) (t : Bool) → suc (length rs) ≡ length g
    → xors (xors (rs ++ (false ∷ [])) (scaled t g) ++ zeros (length bs)) (bs ++ zeros (length g)) ≡ p
    → xors (scaled t g ++ zeros (length bs)) p ≡ xors (rs ++ (false ∷ zeros (length bs))) (bs ++ zeros (length g))
line g rs bs p t h e =
    let z = zeros (length bs) in
    let u = rs ++ (false ∷ []) in
    let a = scaled t g ++ z in
    let m = bs ++ zeros (length g) in
    let hu : length u ≡ length g = length_up t rs ∙ h in
    let hm : length m ≡ length bs + length g = length-append bs (zeros (length g)) ∙ ap (λ (n : ℕ). length bs + n) (length-zeros (length g)) in
    let hb : length (u ++ z) ≡ length bs + length g = rw (length-append u z, hu, length-zeros (length bs)) (add_comm (length g) (length bs)) in
    let apart : xors u (scaled t g) ++ z ≡ xors (u ++ z) a =
    sym (xors-append u (scaled t g) z z (hu ∙ sym (length-scaled t g)) ∙ ap (λ (l : List Bool). xors u (scaled t g) ++ l) (xors-zeros z (length bs) (length-zeros (length bs)))) in
    ap (xors a) (sym e ∙ ap (λ (l : List Bool). xors l m) (apart ∙ xors_comm (u ++ z) a) ∙ xors_assoc a (u ++ z) m)
    ∙ xors_cancel a (xors (u ++ z) m) (length-line t g (length bs) ∙ sym (length-xors (u ++ z) m (hb ∙ sym hm) ∙ hb))
    ∙ ap (λ (l : List Bool). xors l m) (append_assoc rs (false ∷ []) z)

division : (g r m : List Bool) → length r ≡ length g → 0 < length g
    → xors (r ++ zeros (length m)) (m ++ zeros (length g)) ≡ xors (product g (quotient g r m)) (zeros (length m) ++ continued g r m)
unfolding quotient continued top fed xors
division g r [] h k =
    ap (λ (l : List Bool). xors l (zeros (length g))) (append-nil r) ∙ xors_comm r (zeros (length g)) ∙ (unfold product in refl)
division g [] (b ∷ bs) h k = absurd (omega arith)
division g (r ∷ rs) (b ∷ bs) h k =
    let t = xor r b in
    let q = quotient g (fed g (r ∷ rs) b) bs in
    let d = zeros (length bs) ++ continued g (fed g (r ∷ rs) b) bs in
    let rest = division g (fed g (r ∷ rs) b) bs (length-fed g (r ∷ rs) b h) k in
    sym
    (product-line g q d t
    ∙ ap (λ (l : List Bool). t ∷ l)
    (ap (λ (n : ℕ). xors (scaled t g ++ zeros n) (xors (product g q) d)) (length-quotient g (fed g (r ∷ rs) b) bs)
    ∙ line g rs bs (xors (product g q) d) t h rest))

zeros-left : (k : ℕ) (r : List Bool) → length r ≡ k → xors (zeros k) r ≡ r
zeros-left k r h = xors_comm (zeros k) r ∙ xors-zeros r k h

-- message · X^k = quotient · (X^k + g) + remainder
pub is_remainder : (g m : List Bool) → 0 < length g → Leaves g m (remainder g m)
unfolding remainder
is_remainder g m k =
    let z = zeros (length g) in
    let c : length (m ++ zeros (length g)) ≡ length g + length m = rw (length-append m z, length-zeros (length g)) (add_comm (length m) (length g)) in (
      quotient g z m,
      length-quotient g z m,
      sym (ap (λ (l : List Bool). xors l (m ++ z)) (replicate-append-replicate (length g) (length m) false) ∙ zeros-left (length g + length m) (m ++ z) c)
          ∙ division g z m (length-zeros (length g)) k,
    )

length-sum : (g q r : List Bool) → length r ≡ length g → length (xors (product g q) (zeros (length q) ++ r)) ≡ length q + length g
length-sum g q r h =
    let hz : length (zeros (length q) ++ r) ≡ length q + length g = rw (length-append (zeros (length q)) r, length-zeros (length q), h) in
    length-xors (product g q) (zeros (length q) ++ r) (length-product g q ∙ sym hz) ∙ length-product g q

-- two quotients of one length and two remainders of k bits that give one sum are the same
same : (g q p r s : List Bool) → length q ≡ length p → length r ≡ length g → length s ≡ length g
    → xors (product g q) (zeros (length q) ++ r) ≡ xors (product g p) (zeros (length p) ++ s) → r ≡ s
same g [] [] r s h hr hs e = let e' : xors (zeros (length g)) r ≡ xors (zeros (length g)) s = unfold product in e in
    sym (zeros-left (length g) r hr) ∙ e' ∙ zeros-left (length g) s hs
same g [] (b ∷ p) r s h hr hs e = absurd (suc-ne-zero _ (sym h))
same g (a ∷ q) [] r s h hr hs e = absurd (suc-ne-zero _ h)
same g (a ∷ q) (b ∷ p) r s h hr hs e =
    let x = xors (product g q) (zeros (length q) ++ r) in
    let y = xors (product g p) (zeros (length p) ++ s) in
    let l = scaled a g ++ zeros (length q) in
    let both : a ∷ xors l x ≡ b ∷ xors (scaled b g ++ zeros (length p)) y =
    sym (product-line g q (zeros (length q) ++ r) a) ∙ e ∙ product-line g p (zeros (length p) ++ s) b in
    let lines : scaled b g ++ zeros (length p) ≡ l =
    ap₂ (λ (t : Bool) (n : ℕ). scaled t g ++ zeros n) (sym (head-eq_of_cons-eq both)) (sym (suc_inj h)) in
    let rest : xors l x ≡ xors l y = tail-eq_of_cons-eq both ∙ ap (λ (k : List Bool). xors k y) lines in
    same g q p r s (suc_inj h) hr hs
    (sym (xors_cancel l x (length-line a g (length q) ∙ sym (length-sum g q r hr)))
    ∙ ap (xors l) rest
    ∙ xors_cancel l y (length-line a g (length q) ∙ ap (λ (n : ℕ). n + length g) (suc_inj h) ∙ sym (length-sum g p s hs)))

-- so it is the only remainder
pub only_remainder : (g m r : List Bool) → 0 < length g → length r ≡ length g → Leaves g m r → r ≡ remainder g m
only_remainder g m r k hr l =
    let there = is_remainder g m k in
    same g l.0 there.0 r (remainder g m) (l.1 ∙ sym there.1) hr (length-remainder g m)
    (ap (λ (n : ℕ). xors (product g l.0) (zeros n ++ r)) l.1 ∙ sym l.2 ∙ there.2
    ∙ ap (λ (n : ℕ). xors (product g there.0) (zeros n ++ remainder g m)) (sym there.1))

-- a remainder continued over a message of k bits or more is the remainder of that message with the remainder added to its first k bits
pub continued_is : (g r m : List Bool) (n : ℕ) → 0 < length g → length r ≡ length g → length m ≡ length g + n
    → continued g r m ≡ remainder g (xors (r ++ zeros n) m)
continued_is g r m n k hr hm =
    let z = zeros (length g) in
    let hrz : length (r ++ zeros n) ≡ length m = rw (length-append r (zeros n), hr, length-zeros n) (sym hm) in
    let hx : length (xors (r ++ zeros n) m) ≡ length m = length-xors (r ++ zeros n) m hrz ∙ hrz in
    let joined : xors (r ++ zeros n) m ++ z ≡ xors (r ++ zeros (length m)) (m ++ z) =
    ap (λ (l : List Bool). xors (r ++ zeros n) m ++ l) (sym (zeros-left (length g) z (length-zeros (length g))))
    ∙ sym (xors-append (r ++ zeros n) m z z hrz)
    ∙ ap (λ (l : List Bool). xors l (m ++ z))
    (append_assoc r (zeros n) z
    ∙ ap (λ (l : List Bool). r ++ l) (replicate-append-replicate n (length g) false ∙ ap zeros (add_comm n (length g) ∙ sym hm))) in
    only_remainder g (xors (r ++ zeros n) m) (continued g r m) k (length-continued g r m hr) (
      quotient g r m,
      length-quotient g r m ∙ sym hx,
      joined ∙ division g r m hr k ∙ ap (λ (n : ℕ). xors (product g (quotient g r m)) (zeros n ++ continued g r m)) (sym hx),
    )

-- ---- a period of g: n zeros over which every remainder comes back to itself
abbrev pub Period : List Bool → ℕ → Type 0
Period g n = (r : List Bool) → length r ≡ length g → continued g r (zeros n) ≡ r

pub period_times : (g : List Bool) (n k : ℕ) → Period g n → Period g (n * k)
unfolding continued
period_times g n zero p r h = rw (mul-zero n)
period_times g n (suc k) p r h =
    ap (continued g r) (ap zeros (mul-suc n k) ∙ sym (replicate-append-replicate (n * k) n false))
    ∙ continued-append g r (zeros (n * k)) (zeros n)
    ∙ ap (λ (l : List Bool). continued g l (zeros n)) (period_times g n k p r h)
    ∙ p r h

-- bits may be added to those that come a period after them
pub remainder-moved : (g b c : List Bool) → length b ≡ length c → Period g (length c) → remainder g (b ++ c) ≡ remainder g (xors b c)
unfolding remainder
remainder-moved g b c h p =
    let r = remainder g b in
    let hr : length r ≡ length g = length-remainder g b in
    remainder-append g b c
    ∙ ap₂ (continued g) (sym (xors-zeros r (length g) hr)) (sym (zeros-left (length c) c refl))
    ∙ continued-xor g r (zeros (length g)) (zeros (length c)) c hr (length-zeros (length g)) (length-zeros (length c))
    ∙ ap (λ (l : List Bool). xors l (remainder g c)) (p r hr)
    ∙ sym (remainder-xor g b c h)
