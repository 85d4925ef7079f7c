-- One level of gather and of scatter, over the size of the parts: what a list of moves does inside one part is a computed test, and all parts of a word
-- move at once. Assumes nothing.
use mathlib.Core.Path.{◌≡◌, refl, sym, ◌∙◌, ap, ap₂, subst}
use mathlib.Core.Bool.{Bool, true, ◌&&◌}
use mathlib.Core.List.{List, [], ◌∷◌}
use Prim.Native.Nat.{ℕ, zero, suc, ◌+◌, ◌-◌, ◌*◌, ◌/◌, ◌%◌, ◌^◌, ◌<◌, ◌≤◌}
use native.Mathlib.Omega.{arith}
use native.Mathlib.Nat.{mod-eq_of_lt, mul-le-mul_right, mul-mod_left, mod-lt}
use lib.Dec.{eqb, ltb}
use borrow.Author.Tests.{eqb-true, ltb-true}
use lib.Arith.{digits_lt}
use lib.Bits.{bit_and, bit_xor, and_le_l, and_le_r, and_mod, and_zero_r, and_block, or_lt, xor_lt}
use lib.Pow.{pow-add, pow_mono, pow_pos, shr_le, split, mod-mod-pow, field, high, low}
use Rattle.bits.specs.Bit.{rank}
use Rattle.bits.proofs.Refusals.{both}
use Rattle.bits.proofs.Computed.{every, every-at}
use Rattle.bits.proofs.Word.{below-pow, bit-lt, bit-and, bit-xor, ext}
use Rattle.bits.proofs.Rank.{rank-le}
use Rattle.gather.specs.Gather.{gather_of, scatter_of}
use Rattle.gather.specs.Parts.{in_parts, gaps_of, gather_parts, scatter_parts, down, up}
use Rattle.gather.proofs.AnyWidth.{gather-count, gather-lt}
use Rattle.gather.proofs.Halves.{gather-halves, scatter-halves, scatter-count}
use Rattle.gather.proofs.Parts.{Small, every_part, paired, parts-ext, parts-mask, parts-every, parts-mul, parts_whole, parts-shr, parts-and, parts-or, parts-xor, parts-second, parts-pairs, parts-lt}

-- A move is a distance, one of the powers of two in the gaps, and a factor that makes of it the places that move.

abbrev pub Shifts : Type 0
Shifts = List (ℕ × ℕ)

-- the moves inside one part with gaps g: down from the first, up from the last

unfoldable pub downs : Shifts → ℕ → ℕ → ℕ
downs [] g v = v
downs (p ∷ ps) g v = downs ps g (down p.0 (bit_and g p.0 * p.1) v)

-- up, without the bits that come from the part below
abbrev up_in : ℕ → ℕ → ℕ → ℕ
up_in d w v = bit_xor v (bit_xor (bit_and v w) (bit_and v (w / 2 ^ d) * 2 ^ d))

unfoldable pub ups : Shifts → ℕ → ℕ → ℕ
ups [] g v = v
ups (p ∷ ps) g v = up_in p.0 (bit_and g p.0 * p.1) (ups ps g v)

-- the same on a word of n parts of k bits
unfoldable pub down_all : ℕ → ℕ → Shifts → ℕ → ℕ → ℕ
down_all k n [] g y = y
down_all k n (p ∷ ps) g y = down_all k n ps g (down p.0 (bit_and g (every_part k n p.0) * p.1) y)

unfoldable pub up_all : ℕ → ℕ → Shifts → ℕ → ℕ → ℕ
up_all k n [] g y = y
up_all k n (p ∷ ps) g y = up p.0 (bit_and g (every_part k n p.0) * p.1) (up_all k n ps g y)

-- no move of a part with gaps g leaves the part
unfoldable pub inside : ℕ → Shifts → ℕ → Bool
inside k [] g = true
inside k (p ∷ ps) g = (ltb p.0 (2 ^ k) && (ltb (p.0 * p.1) (2 ^ k) && eqb (bit_and g p.0 * p.1 % 2 ^ p.0) 0)) && inside k ps g

record Inside (k d a g : ℕ) : Type 0 where
  power : d < 2 ^ k
  places : d * a < 2 ^ k
  whole : bit_and g d * a % 2 ^ d ≡ 0

inside-move : (k : ℕ) (p : ℕ × ℕ) (ps : Shifts) (g : ℕ) → inside k (p ∷ ps) g ≡ true → Inside k p.0 p.1 g × (inside k ps g ≡ true)
unfolding inside
inside-move k p ps g e =
    let a = both _ (inside k ps g) e in
    let b = both (ltb p.0 (2 ^ k)) _ a.0 in
    let c = both (ltb (p.0 * p.1) (2 ^ k)) _ b.1 in
    (record { power = ltb-true _ _ b.0; places = ltb-true _ _ c.0; whole = eqb-true _ _ c.1 }, a.1)

module _ {k d a g : ℕ} (h : Inside k d a g) where
  marks-le : bit_and g d * a < 2 ^ k
  marks-le = omega (arith, mul-le-mul_right a (and_le_r g d), h.places)

-- the bits of a word that are chosen by marks without the lowest d places
and-whole : (d v w : ℕ) → w % 2 ^ d ≡ 0 → bit_and v w % 2 ^ d ≡ 0
and-whole d v w e = and_mod v w d ∙ ap (bit_and (v % 2 ^ d)) e ∙ and_zero_r (v % 2 ^ d)

module _ (k d w v : ℕ) (l : v < 2 ^ k) where
  down_lt : down d w v < 2 ^ k
  down_lt =
      let t : bit_and v w < 2 ^ k = omega (arith, and_le_l v w) in
      or_lt k _ _ (xor_lt k v (bit_and v w) l t) (omega (arith, shr_le (bit_and v w) d))

  module _ (u : w < 2 ^ k) where
    taken-lt : bit_and v (w / 2 ^ d) * 2 ^ d < 2 ^ k
    taken-lt = omega (arith, mul-le-mul_right (2 ^ d) (and_le_r v (w / 2 ^ d)), split w d)

    up_in-lt : up_in d w v < 2 ^ k
    up_in-lt = xor_lt k v _ l (xor_lt k (bit_and v w) _ (omega (arith, and_le_l v w)) taken-lt)

-- one move, of all parts

abbrev marks : (ℕ → ℕ → ℕ) → ℕ → ℕ → ℕ → ℕ → ℕ
marks g d a m x = bit_and (g m x) d * a

module _ (k n : ℕ) {v g : ℕ → ℕ → ℕ} (hv : Small k v) (hg : Small k g) (d a : ℕ) (h : (m x : ℕ) → Inside k d a (g m x)) (m x : ℕ) where
  marks-parts : bit_and (in_parts k n g m x) (every_part k n d) * a ≡ in_parts k n (marks g d a) m x
  marks-parts =
      rw (← (parts-every k d n m x), parts-and k hg (λ m x. (h m x).power) n m x, parts-mul k (λ m x. bit_and (g m x) d) a n m x)

  marked-small : Small k (λ m x. bit_and (v m x) (marks g d a m x))
  marked-small m x = omega (arith, and_le_l (v m x) (marks g d a m x), hv m x)

  down-parts : down d (bit_and (in_parts k n g m x) (every_part k n d) * a) (in_parts k n v m x) ≡ in_parts k n (λ m x. down d (marks g d a m x) (v m x)) m x
  down-parts =
      let small : Small k (marks g d a) = λ m x. marks-le (h m x) in
      let rest : Small k (λ m x. bit_xor (v m x) (bit_and (v m x) (marks g d a m x))) = λ m x. xor_lt k _ _ (hv m x) (marked-small m x) in
      let moved : Small k (λ m x. bit_and (v m x) (marks g d a m x) / 2 ^ d) = λ m x. omega (arith, shr_le (bit_and (v m x) (marks g d a m x)) d, marked-small m x) in
      rw (
        marks-parts,
        parts-and k hv small n m x,
        parts-xor k hv marked-small n m x,
        parts-shr k (λ m x. bit_and (v m x) (marks g d a m x)) d (λ m x. and-whole d (v m x) (marks g d a m x) (h m x).whole) n m x,
      )
      (parts-or k rest moved n m x)

  up-parts : up_in d (bit_and (in_parts k n g m x) (every_part k n d) * a) (in_parts k n v m x) ≡ in_parts k n (λ m x. up_in d (marks g d a m x) (v m x)) m x
  up-parts =
      let small : Small k (marks g d a) = λ m x. marks-le (h m x) in
      let from : Small k (λ m x. marks g d a m x / 2 ^ d) = λ m x. omega (arith, shr_le (marks g d a m x) d, marks-le (h m x)) in
      let taken : Small k (λ m x. bit_and (v m x) (marks g d a m x / 2 ^ d) * 2 ^ d) = λ m x. taken-lt k d (marks g d a m x) (v m x) (hv m x) (marks-le (h m x)) in
      let both : Small k (λ m x. bit_xor (bit_and (v m x) (marks g d a m x)) (bit_and (v m x) (marks g d a m x / 2 ^ d) * 2 ^ d)) =
      λ m x. xor_lt k _ _ (marked-small m x) (taken m x)
      in
      rw (
        marks-parts,
        parts-and k hv small n m x,
        parts-shr k (marks g d a) d (λ m x. (h m x).whole) n m x,
        parts-and k hv from n m x,
        parts-mul k (λ m x. bit_and (v m x) (marks g d a m x / 2 ^ d)) (2 ^ d) n m x,
        parts-xor k marked-small taken n m x,
      )
      (parts-xor k hv both n m x)

-- up on a whole word: what is shifted out of the word, or into places that are not marked, is not looked at
up-whole : (d w y : ℕ) → w < 2 ^ 64 → w % 2 ^ d ≡ 0 → up d w y ≡ up_in d w y
up-whole d w y l e = ap (bit_xor y) (spread ∙ ap (bit_xor (bit_and y w)) shifted)
  where
    spread : bit_and (bit_xor y (y * 2 ^ d % 2 ^ 64)) w ≡ bit_xor (bit_and y w) (bit_and (y * 2 ^ d % 2 ^ 64) w)
    spread =
        ext 64 (omega (arith, and_le_r (bit_xor y (y * 2 ^ d % 2 ^ 64)) w))
        (xor_lt 64 (bit_and y w) (bit_and (y * 2 ^ d % 2 ^ 64) w) (omega (arith, and_le_r y w)) (omega (arith, and_le_r (y * 2 ^ d % 2 ^ 64) w)))
        λ i h. rw (bit-and, bit-xor, bit-xor, bit-and, bit-and)
        (omega (arith, bit-lt y i, bit-lt (y * 2 ^ d % 2 ^ 64) i, bit-lt w i))

    shifted : bit_and (y * 2 ^ d % 2 ^ 64) w ≡ bit_and y (w / 2 ^ d) * 2 ^ d
    shifted =
        let f : w / 2 ^ d * 2 ^ d + 0 ≡ w = omega (arith, split w d) in
        let b : bit_and (y * 2 ^ d + 0) (w / 2 ^ d * 2 ^ d + 0) ≡ bit_and y (w / 2 ^ d) * 2 ^ d + bit_and 0 0 = and_block d y (w / 2 ^ d) 0 0 (pow_pos d) (pow_pos d) in
        let c : bit_and (y * 2 ^ d) w % 2 ^ 64 ≡ bit_and (y * 2 ^ d % 2 ^ 64) w = and_mod (y * 2 ^ d) w 64 ∙ ap (bit_and (y * 2 ^ d % 2 ^ 64)) (mod-eq_of_lt l) in
        let q : y * 2 ^ d + 0 ≡ y * 2 ^ d = omega arith in
        sym c ∙ mod-eq_of_lt (omega (arith, and_le_r (y * 2 ^ d) w)) ∙ omega (arith, rw (f, q) at b)

-- a list of moves, of all parts

downs-parts : (k n : ℕ) (ps : Shifts) {v g : ℕ → ℕ → ℕ} → Small k v → Small k g → ((m x : ℕ) → inside k ps (g m x) ≡ true) → (m x : ℕ)
    → down_all k n ps (in_parts k n g m x) (in_parts k n v m x) ≡ in_parts k n (λ m x. downs ps (g m x) (v m x)) m x
unfolding down_all downs
downs-parts k n [] hv hg h m x = refl
downs-parts k n (p ∷ ps) {v} {g} hv hg h m x =
    let own : (m x : ℕ) → Inside k p.0 p.1 (g m x) = λ m x. (inside-move k p ps (g m x) (h m x)).0 in
    let small : Small k (λ m x. down p.0 (bit_and (g m x) p.0 * p.1) (v m x)) = λ m x. down_lt k p.0 _ (v m x) (hv m x) in
    ap (down_all k n ps (in_parts k n g m x)) (down-parts k n hv hg p.0 p.1 own m x)
    ∙ downs-parts k n ps small hg (λ m x. (inside-move k p ps (g m x) (h m x)).1) m x

ups-lt : (k : ℕ) (ps : Shifts) (g v : ℕ) → inside k ps g ≡ true → v < 2 ^ k → ups ps g v < 2 ^ k
unfolding ups
ups-lt k [] g v h l = l
ups-lt k (p ∷ ps) g v h l =
    let i = inside-move k p ps g h in
    up_in-lt k p.0 (bit_and g p.0 * p.1) (ups ps g v) (ups-lt k ps g v i.1 l) (marks-le i.0)

ups-parts : (k n : ℕ) → k * n ≡ 64 → (ps : Shifts) {v g : ℕ → ℕ → ℕ} → Small k v → Small k g → ((m x : ℕ) → inside k ps (g m x) ≡ true) → (m x : ℕ)
    → up_all k n ps (in_parts k n g m x) (in_parts k n v m x) ≡ in_parts k n (λ m x. ups ps (g m x) (v m x)) m x
unfolding up_all ups
ups-parts k n s [] hv hg h m x = refl
ups-parts k n s (p ∷ ps) {v} {g} hv hg h m x =
    let own : (m x : ℕ) → Inside k p.0 p.1 (g m x) = λ m x. (inside-move k p ps (g m x) (h m x)).0 in
    let rest : (m x : ℕ) → inside k ps (g m x) ≡ true = λ m x. (inside-move k p ps (g m x) (h m x)).1 in
    let small : Small k (λ m x. ups ps (g m x) (v m x)) = λ m x. ups-lt k ps (g m x) (v m x) (rest m x) (hv m x) in
    let w = bit_and (in_parts k n g m x) (every_part k n p.0) * p.1 in
    let e = marks-parts k n hv hg p.0 p.1 own m x in
    let word : w < 2 ^ 64 = omega (arith, e, rw s at (parts-lt k {f = marks g p.0 p.1} (λ m x. marks-le (own m x)) n m x)) in
    let whole : w % 2 ^ p.0 ≡ 0 =
    ap (λ (a : ℕ). a % 2 ^ p.0) (e ∙ parts_whole k (marks g p.0 p.1) p.0 (λ m x. (own m x).whole) n m x) ∙ mul-mod_left _ (2 ^ p.0)
    in
    ap (up p.0 w) (ups-parts k n s ps hv hg rest m x)
    ∙ up-whole p.0 w (in_parts k n (λ m x. ups ps (g m x) (v m x)) m x) word whole
    ∙ up-parts k n small hg p.0 p.1 own m x

-- One level of gather. Computed: whatever the count c of the lower half, its c bits and the s bits above them, the moves join the two.
unfoldable pub joins_at : ℕ → Shifts → ℕ → ℕ → ℕ → Bool
joins_at s ps c lo hi = eqb (downs ps (s - c) (hi * 2 ^ s + lo)) (hi * 2 ^ c + lo)

unfoldable pub joins : ℕ → Shifts → Bool
joins s ps = every (suc s) λ c. inside (s + s) ps (s - c) && every (2 ^ c) λ lo. every (2 ^ s) (joins_at s ps c lo)

gaps-small : (s m : ℕ) → s - rank m s < 2 ^ (s + s)
gaps-small s m = omega (arith, below-pow s, pow_mono {i = s} {j = s + s} (omega arith))

pub gather-level : (s n : ℕ) (ps : Shifts) → joins s ps ≡ true → (m x : ℕ)
    → down_all (s + s) n ps (gaps_of s n m) (gather_parts s (n + n) m x) ≡ gather_parts (s + s) n m x
unfolding joins joins_at
gather-level s n ps t m x =
    rw (parts-pairs s (gather_of s) n m x, parts-mask (s + s) (λ m. s - rank m s) n m 0 x)
    (downs-parts (s + s) n ps pair (λ m x. gaps-small s m) (λ m x. (at m).0) m x ∙ parts-ext (s + s) joined n m x)
  where
    pair : Small (s + s) (paired s (gather_of s))
    pair m x = rw (pow-add 2 s s) (digits_lt (gather-lt (m / 2 ^ s) (x / 2 ^ s) s) (gather-lt m x s))

    at : (m : ℕ) → (inside (s + s) ps (s - rank m s) ≡ true) × (every (2 ^ rank m s) (λ lo. every (2 ^ s) (joins_at s ps (rank m s) lo)) ≡ true)
    at m =
        both _ _
        (every-at (suc s) (λ c. inside (s + s) ps (s - c) && every (2 ^ c) λ lo. every (2 ^ s) (joins_at s ps c lo)) t (rank m s) (omega (arith, rank-le m s)))

    joined : (m x : ℕ) → downs ps (s - rank m s) (paired s (gather_of s) m x) ≡ gather_of (s + s) m x
    joined m x =
        let lo = gather_of s m x in
        let hi = gather_of s (m / 2 ^ s) (x / 2 ^ s) in
        let a = every-at (2 ^ rank m s) (λ lo. every (2 ^ s) (joins_at s ps (rank m s) lo)) (at m).1 lo (gather-count m x s) in
        eqb-true _ _ (every-at (2 ^ s) (joins_at s ps (rank m s) lo) a hi (gather-lt (m / 2 ^ s) (x / 2 ^ s) s)) ∙ sym (gather-halves s m x s)

-- One level of scatter. Computed: whatever the count c of the lower half, and whatever the bits of the part, the lower half keeps its c bits and the upper
-- half takes those that follow them.
unfoldable pub splits_at : ℕ → Shifts → ℕ → ℕ → Bool
splits_at s ps c v = eqb (ups ps (s - c) v % 2 ^ c) (v % 2 ^ c) && eqb (ups ps (s - c) v / 2 ^ s) (v / 2 ^ c % 2 ^ s)

unfoldable pub splits : ℕ → Shifts → Bool
splits s ps = every (suc s) λ c. inside (s + s) ps (s - c) && every (2 ^ (s + s)) (splits_at s ps c)

mod-less : (x c k : ℕ) → c ≤ k → x % 2 ^ k % 2 ^ c ≡ x % 2 ^ c
mod-less x c k h = let e : (k - c) + c ≡ k = omega arith in rw e at (mod-mod-pow x (k - c) c)

pub scatter-same : (w m a b s : ℕ) → rank m w ≤ s → a % 2 ^ s ≡ b % 2 ^ s → scatter_of w m a ≡ scatter_of w m b
scatter-same w m a b s h e =
    sym (scatter-count w m a)
    ∙ ap (scatter_of w m) (sym (mod-less a (rank m w) s h) ∙ ap (λ (n : ℕ). n % 2 ^ rank m w) e ∙ mod-less b (rank m w) s h)
    ∙ scatter-count w m b

module _ (s : ℕ) (ps : Shifts) (t : splits s ps ≡ true) where
  part_up : ℕ → ℕ → ℕ
  part_up m y = ups ps (s - rank m s) (y % 2 ^ (s + s))

  at_count : (m : ℕ) → (inside (s + s) ps (s - rank m s) ≡ true) × (every (2 ^ (s + s)) (splits_at s ps (rank m s)) ≡ true)
  unfolding splits
  at_count m =
      both _ _ (every-at (suc s) (λ c. inside (s + s) ps (s - c) && every (2 ^ (s + s)) (splits_at s ps c)) t (rank m s) (omega (arith, rank-le m s)))

  part_up-small : Small (s + s) part_up
  unfolding part_up
  part_up-small m y = ups-lt (s + s) ps (s - rank m s) (y % 2 ^ (s + s)) (at_count m).0 (mod-lt y (pow_pos (s + s)))

  part_up-is : (m y : ℕ) → (part_up m y % 2 ^ rank m s ≡ y % 2 ^ (s + s) % 2 ^ rank m s) × (part_up m y / 2 ^ s ≡ y % 2 ^ (s + s) / 2 ^ rank m s % 2 ^ s)
  unfolding part_up splits_at
  part_up-is m y =
      let b = both _ _ (every-at (2 ^ (s + s)) (splits_at s ps (rank m s)) (at_count m).1 (y % 2 ^ (s + s)) (mod-lt y (pow_pos (s + s)))) in
      (eqb-true _ _ b.0, eqb-true _ _ b.1)

  -- one part, with any word above it
  scatter-part : (m y a : ℕ) → paired s (scatter_of s) m (a * 2 ^ (s + s) + part_up m y) ≡ scatter_of (s + s) m y
  scatter-part m y a =
      let c = rank m s in
      let r = rank-le m s in
      let z = a * 2 ^ (s + s) + part_up m y in
      let is : z % 2 ^ (s + s) ≡ part_up m y = low a (s + s) (part_up-small m y) in
      let lower : scatter_of s m z ≡ scatter_of s m y =
      scatter-same s m z y c (omega arith)
      (sym (mod-less z c (s + s) (omega arith)) ∙ ap (λ (n : ℕ). n % 2 ^ c) is ∙ (part_up-is m y).0 ∙ mod-less y c (s + s) (omega arith))
      in
      let e : (s + s - c) + c ≡ s + s = omega arith in
      let upper : scatter_of s (m / 2 ^ s) (z / 2 ^ s) ≡ scatter_of s (m / 2 ^ s) (y / 2 ^ c) =
      scatter-same s (m / 2 ^ s) (z / 2 ^ s) (y / 2 ^ c) s (rank-le (m / 2 ^ s) s)
      (sym (field z s s) ∙ ap (λ (n : ℕ). n / 2 ^ s) is ∙ (part_up-is m y).1
      ∙ ap (λ (n : ℕ). n % 2 ^ s) (rw e at (field y (s + s - c) c)) ∙ mod-less (y / 2 ^ c) s (s + s - c) (omega arith))
      in
      ap₂ (λ (a b : ℕ). a * 2 ^ s + b) upper lower ∙ sym (scatter-halves s m y s)

  scatter-part_up : (n m y : ℕ) → in_parts (s + s) n (paired s (scatter_of s)) m (in_parts (s + s) n part_up m y) ≡ scatter_parts (s + s) n m y
  unfolding in_parts
  scatter-part_up zero m y = refl
  scatter-part_up (suc n) m y =
      let k = s + s in
      let a = in_parts k n part_up (m / 2 ^ k) (y / 2 ^ k) in
      ap₂ (λ (u v : ℕ). u * 2 ^ k + v)
      (ap (in_parts k n (paired s (scatter_of s)) (m / 2 ^ k)) (high a k (part_up-small m y)) ∙ scatter-part_up n (m / 2 ^ k) (y / 2 ^ k))
      (scatter-part m y a)

  module _ (n : ℕ) (e : (s + s) * n ≡ 64) (m : ℕ) {y : ℕ} (l : y < 2 ^ 64) where
    up-part_up : up_all (s + s) n ps (gaps_of s n m) y ≡ in_parts (s + s) n part_up m y
    unfolding part_up
    up-part_up =
        ap₂ (up_all (s + s) n ps) (parts-mask (s + s) (λ m. s - rank m s) n m 0 y) (sym (parts-second (s + s) n (subst (λ (j : ℕ). y < 2 ^ j) (sym e) l) m))
        ∙ ups-parts (s + s) n e ps (λ m x. mod-lt x (pow_pos (s + s))) (λ m x. gaps-small s m) (λ m x. (at_count m).0) m y

    pub scatter-level : scatter_parts s (n + n) m (up_all (s + s) n ps (gaps_of s n m) y) ≡ scatter_parts (s + s) n m y
    scatter-level = parts-pairs s (scatter_of s) n m _ ∙ ap (in_parts (s + s) n (paired s (scatter_of s)) m) up-part_up ∙ scatter-part_up n m y

    pub up_lt : up_all (s + s) n ps (gaps_of s n m) y < 2 ^ 64
    up_lt = omega (arith, up-part_up, rw e at (parts-lt (s + s) part_up-small n m y))
