-- Tiles moved by a rule that has an inverse: bit by bit, one rule after another, and by the code's steps. Assumes nothing.
use mathlib.Core.Path.{◌≡◌, refl, sym, ◌∙◌, ap}
use mathlib.Core.Bool.{true}
use mathlib.Core.List.{List}
use Prim.Native.Nat.{ℕ, ◌+◌, ◌*◌, ◌/◌, ◌%◌, ◌^◌, ◌<◌}
use native.Mathlib.Omega.{arith}
use lib.Dec.{eqb}
use borrow.Author.Tests.{eqb-true}
use Rattle.bits.specs.Bit.{bit, put}
use Rattle.bits.proofs.Computed.{every, every-at}
use Rattle.bits.proofs.UpTo.{up_to-same}
use Rattle.bits.proofs.Word.{ext}
use Rattle.tiles.specs.Tile.{Rule, place_in, goes_to, moved, after, TakesBack, Inverse}
use Rattle.tiles.proofs.PutOnce.{Bijective, put-lt, bit-put}

-- rows and columns, and places

place-lt : (r c : ℕ) → r < 8 → c < 8 → 8 * r + c < 64
place-lt r c hr hc = omega arith

at_place : (g : Rule) (r c : ℕ) → c < 8 → goes_to g (8 * r + c) ≡ place_in (g r c)
at_place g r c h =
    let d : (8 * r + c) / 8 ≡ r = omega arith in
    let m : (8 * r + c) % 8 ≡ c = omega arith in
    rw (d, m)

module _ (f g : Rule) (b : TakesBack g f) where
  gone-lt : (p : ℕ) → p < 64 → goes_to f p < 64
  gone-lt p h = let k = b (p / 8) (p % 8) (omega arith) (omega arith) in place-lt (f (p / 8) (p % 8)).0 (f (p / 8) (p % 8)).1 k.0 k.1

  came-back : (r c : ℕ) → r < 8 → c < 8 → goes_to g (place_in (f r c)) ≡ 8 * r + c
  came-back r c hr hc = let k = b r c hr hc in at_place g (f r c).0 (f r c).1 k.1 ∙ ap place_in k.2

  back-again : (p : ℕ) → p < 64 → goes_to g (goes_to f p) ≡ p
  back-again p h = came-back (p / 8) (p % 8) (omega arith) (omega arith) ∙ omega arith

module _ (f g : Rule) (i : Inverse f g) where
  bijective : Bijective (goes_to f) (goes_to g)
  bijective = record { there = gone-lt f g i.0; back = gone-lt g f i.1; restored = back-again f g i.0; reached = back-again g f i.1 }

  pub moved-lt : (x : ℕ) → moved f x < 2 ^ 64
  unfolding moved
  moved-lt x = put-lt (goes_to f) (goes_to g) bijective x

  bit_moved : (x q : ℕ) → q < 64 → bit (moved f x) q ≡ bit x (goes_to g q)
  unfolding moved
  bit_moved x q h = bit-put (goes_to f) (goes_to g) bijective x q h

  -- "Each tile movement must put every dot where its row and column rule says"
  pub dot-moved : (x r c : ℕ) → r < 8 → c < 8 → bit (moved f x) (place_in (f r c)) ≡ bit x (8 * r + c)
  dot-moved x r c hr hc =
      let k = i.0 r c hr hc in
      bit_moved x (place_in (f r c)) (place-lt (f r c).0 (f r c).1 k.0 k.1) ∙ ap (bit x) (came-back f g i.0 r c hr hc)

  -- the only such tile
  pub moved-only : (x : ℕ) {y : ℕ} → y < 2 ^ 64 → ((q : ℕ) → q < 64 → bit y q ≡ bit x (goes_to g q)) → y ≡ moved f x
  moved-only x {y} h e = ext 64 h (moved-lt x) (λ q l. e q l ∙ sym (bit_moved x q l))

-- one rule after another

takes-after : (f f' g g' : Rule) → TakesBack f' f → TakesBack g' g → TakesBack (after f' g') (after g f)
takes-after f f' g g' a b r c hr hc =
    let k = a r c hr hc in
    let m = b (f r c).0 (f r c).1 k.0 k.1 in
    (m.0, m.1, ap (λ (w : ℕ × ℕ). f' w.0 w.1) m.2 ∙ k.2)

pub inverse-after : (f f' g g' : Rule) → Inverse f f' → Inverse g g' → Inverse (after g f) (after f' g')
inverse-after f f' g g' i j = (takes-after f f' g g' i.0 j.0, takes-after g' g f' f j.1 i.1)

-- the law of two movements
pub moved-after : (f f' g g' : Rule) → Inverse f f' → Inverse g g' → (x : ℕ) → moved g (moved f x) ≡ moved (after g f) x
moved-after f f' g g' i j x =
    moved-only (after g f) (after f' g') (inverse-after f f' g g' i j) x (moved-lt g g' j (moved f x))
    (λ q h.
    let k = j.1 (q / 8) (q % 8) (omega arith) (omega arith) in
    bit_moved g g' j (moved f x) q h
    ∙ bit_moved f f' i x (goes_to g' q) (gone-lt g' g j.1 q h)
    ∙ ap (bit x) (at_place f' (g' (q / 8) (q % 8)).0 (g' (q / 8) (q % 8)).1 k.1))

-- rules that agree in the tile
pub same-rule : (f g : Rule) → ((r c : ℕ) → r < 8 → c < 8 → f r c ≡ g r c) → (x : ℕ) → moved f x ≡ moved g x
unfolding moved
same-rule f g e x =
    ap (λ (ps : List ℕ). put ps x) (up_to-same 64 (goes_to f) (goes_to g) (λ p h. ap place_in (e (p / 8) (p % 8) (omega arith) (omega arith))))

abbrev still : Rule
still r c = (r, c)

moved-still : {x : ℕ} → x < 2 ^ 64 → moved still x ≡ x
moved-still {x} h =
    sym (moved-only still still (same, same) x h (λ q l. let e : q ≡ 8 * (q / 8) + q % 8 = omega arith in ap (bit x) e))
  where
    same : TakesBack still still
    same r c hr hc = (hr, hc, refl)

-- a movement and then its inverse
pub moved_back : (f g : Rule) → Inverse f g → {x : ℕ} → x < 2 ^ 64 → moved g (moved f x) ≡ x
moved_back f g i {x} h =
    moved-after f g g f i (i.1, i.0) x ∙ same-rule (after g f) still (λ r c hr hc. (i.0 r c hr hc).2) x ∙ moved-still h

-- A word whose bit q is that of another at place s q.
pub record Sent (s : ℕ → ℕ) (x y : ℕ) : Type 0 where
  pub fits : y < 2 ^ 64
  pub from-lt : (q : ℕ) → q < 64 → s q < 64
  pub bits : (q : ℕ) → q < 64 → bit y q ≡ bit x (s q)

sent-then : (s u : ℕ → ℕ) (x y z : ℕ) → Sent s x y → Sent u y z → Sent (λ q. s (u q)) x z
sent-then s u x y z a b =
    record {
      fits = b.fits;
      from-lt = λ q h. a.from-lt (u q) (b.from-lt q h);
      bits = λ q h. b.bits q h ∙ a.bits (u q) (b.from-lt q h);
    }

-- steps compared with a rule: a test that the checker computes over 64 places
sent-moved : (f g : Rule) → Inverse f g → (s : ℕ → ℕ) → every 64 (λ q. eqb (s q) (goes_to g q)) ≡ true → (x y : ℕ) → Sent s x y → y ≡ moved f x
sent-moved f g i s t x y a =
    moved-only f g i x a.fits (λ q h. a.bits q h ∙ ap (bit x) (eqb-true (s q) (goes_to g q) (every-at 64 (λ q. eqb (s q) (goes_to g q)) t q h)))

-- three steps
pub sent-three : (f g : Rule) → Inverse f g → (s u v : ℕ → ℕ) → every 64 (λ q. eqb (s (u (v q))) (goes_to g q)) ≡ true → (x y z w : ℕ)
    → Sent s x y → Sent u y z → Sent v z w → w ≡ moved f x
sent-three f g i s u v t x y z w a b c =
    sent-moved f g i (λ q. s (u (v q))) t x w (sent-then (λ q. s (u q)) v x z w (sent-then s u x y z a b) c)
