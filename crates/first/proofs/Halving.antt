-- The entries between the outer stages, pair by pair.
-- Assumes nothing.
use mathlib.Core.Path.{◌≡◌, refl, sym, ap, ◌∙◌, subst}
use mathlib.Core.Logic.{◌≢◌}
use mathlib.Core.Bool.{Bool, true, false, not, cond}
use mathlib.Core.List.{List}
use Prim.Native.Nat.{ℕ, suc, ◌+◌, ◌*◌, ◌%◌, ◌^◌, ◌≤◌, ◌<◌}
use native.Mathlib.Decide.{dec_lt}
use native.Mathlib.Omega.{arith}
use lib.ListN.{length, get_or, set as store, length-set}
use lib.Seq.{get_or-set_same, get_or-set_other}
use Rattle.routing.specs.Place.{weight}
use Rattle.routing.specs.Loop.{xor}
use Rattle.routing.specs.Level.{half_to}
use Rattle.routing.proofs.Stage.{xor-false}
use Rattle.first.specs.Marks.{BlockFits}
use Rattle.first.specs.Blocks.{place_in, PlacesKept}

xor-high : (b : Bool) → xor b true ≡ not b
xor-high true = refl
xor-high false = refl

module _ (e b : ℕ) (g : ℕ → Bool) (entries : List ℕ) where
  -- the pairs below k are done
  pub record HalvedBelow (k : ℕ) (now : List ℕ) : Type 0 where
    pub long : length now ≡ length entries
    pub done : (h : Bool) (q : ℕ) → q < k → place_in now b (weight h e + q) ≡ half_to e (place_in entries b) g h q
    pub left : (h : Bool) (q : ℕ) → k ≤ q → q < 2 ^ e → place_in now b (weight h e + q) ≡ place_in entries b (weight h e + q)
    pub kept : PlacesKept e b entries now

  module _
      (fits : BlockFits e b)
      (long : length entries ≡ 64)
      (k : ℕ)
      (now : List ℕ)
      (small : k < 2 ^ e)
      (below : HalvedBelow k now)
    where
      module _
          (lower upper : ℕ)
          (lq : lower ≡ place_in now b (weight (g k) e + k) % 2 ^ e)
          (uq : upper ≡ place_in now b (weight (not (g k)) e + k) % 2 ^ e)
        where
          next : List ℕ
          next = store (store now (2 * b + k) lower) (2 * b + k + 2 ^ e) upper

          beside : (i : ℕ) → i ≢ 2 * b + k → i ≢ 2 * b + k + 2 ^ e → get_or next i 0 ≡ get_or now i 0
          unfolding next
          beside i ne ne' =
              get_or-set_other (store now (2 * b + k) lower) (2 * b + k + 2 ^ e) i upper 0 ne'
              ∙ get_or-set_other now (2 * b + k) i lower 0 ne

          elsewhere : (h : Bool) (q : ℕ) → q < 2 ^ e → q ≢ k → place_in next b (weight h e + q) ≡ place_in now b (weight h e + q)
          unfolding weight
          elsewhere true q l ne =
              beside (2 * b + (2 ^ e + q)) (λ z. absurd (omega arith)) (λ z. ne (omega arith))
          elsewhere false q l ne =
              beside (2 * b + (0 + q)) (λ z. ne (omega arith)) (λ z. absurd (omega arith))

          was : (h : Bool) → place_in now b (weight h e + k) ≡ place_in entries b (weight h e + k)
          was h = below.left h k (omega arith) small

          here : (h : Bool) → place_in next b (weight h e + k) ≡ half_to e (place_in entries b) g h k
          unfolding next weight
          here true =
              let i : 2 * b + (2 ^ e + k) ≡ 2 * b + k + 2 ^ e = omega arith in
              let room : 2 * b + k + 2 ^ e < length (store now (2 * b + k) lower) =
              omega (arith, length-set now (2 * b + k) lower, below.long, fits.room) in
              ap (λ (i : ℕ). get_or next i 0) i
              ∙ get_or-set_same (store now (2 * b + k) lower) (2 * b + k + 2 ^ e) upper 0 room
              ∙ uq
              ∙ ap (λ (x : ℕ). x % 2 ^ e) (was (not (g k)))
              ∙ ap (λ (h : Bool). place_in entries b (weight h e + k) % 2 ^ e) (sym (xor-high (g k)))
          here false =
              let i : 2 * b + (0 + k) ≡ 2 * b + k = omega arith in
              let room : 2 * b + k < length now = omega (arith, below.long, fits.room) in
              ap (λ (i : ℕ). get_or next i 0) i
              ∙ get_or-set_other (store now (2 * b + k) lower) (2 * b + k + 2 ^ e) (2 * b + k) upper 0 (λ z. absurd (omega arith))
              ∙ get_or-set_same now (2 * b + k) lower 0 room
              ∙ lq
              ∙ ap (λ (x : ℕ). x % 2 ^ e) (was (g k))
              ∙ ap (λ (h : Bool). place_in entries b (weight h e + k) % 2 ^ e) (sym (xor-false (g k)))

          turn : HalvedBelow (suc k) next
          unfolding next
          turn =
              record {
                long = length-set (store now (2 * b + k) lower) (2 * b + k + 2 ^ e) upper ∙ length-set now (2 * b + k) lower ∙ below.long;
                done = λ h q l. go h q l (dec_lt q k);
                left = λ h q l r. elsewhere h q r (omega arith) ∙ below.left h q (omega arith) r;
                kept = λ i out.
                    beside i (λ z. out (omega arith, omega arith)) (λ z. out (omega arith, omega arith)) ∙ below.kept i out;
              }
            where
              go : (h : Bool) (q : ℕ) → q < suc k → Dec (q < k) → place_in next b (weight h e + q) ≡ half_to e (place_in entries b) g h q
              go h q l (yes m) = elsewhere h q (omega arith) (omega arith) ∙ below.done h q m
              go h q l (no n) =
                  let z : k ≡ q = omega arith in
                  subst (λ (q : ℕ). place_in next b (weight h e + q) ≡ half_to e (place_in entries b) g h q) z (here h)

      lower_at : (v : Bool) → get_or now (cond v (2 * b + k + 2 ^ e) (2 * b + k)) 0 ≡ place_in now b (weight v e + k)
      unfolding weight
      lower_at true = let i : 2 * b + k + 2 ^ e ≡ 2 * b + (2 ^ e + k) = omega arith in ap (λ (i : ℕ). get_or now i 0) i
      lower_at false = let i : 2 * b + k ≡ 2 * b + (0 + k) = omega arith in ap (λ (i : ℕ). get_or now i 0) i

      upper_at : (v : Bool) → get_or now (cond v (2 * b + k) (2 * b + k + 2 ^ e)) 0 ≡ place_in now b (weight (not v) e + k)
      upper_at true = lower_at false
      upper_at false = lower_at true

      -- a pair exchanged or not, as its switch says
      pub halve-turn :
          (v : Bool) (half : ℕ)
          → g k ≡ v
          → half ≡ 2 ^ e
          → HalvedBelow (k + 1)
          (store (store now (2 * b + k) (get_or now (cond v (2 * b + k + half) (2 * b + k)) 0 % half)) (2 * b + k + half)
          (get_or now (cond v (2 * b + k) (2 * b + k + half)) 0 % half))
      unfolding next
      halve-turn v half gv hq =
          let z : suc k ≡ k + 1 = omega arith in
          let after = λ (j h : ℕ).
          HalvedBelow j
          (store (store now (2 * b + k) (get_or now (cond v (2 * b + k + h) (2 * b + k)) 0 % h)) (2 * b + k + h)
          (get_or now (cond v (2 * b + k) (2 * b + k + h)) 0 % h)) in
          subst (after (k + 1)) (sym hq)
          (subst (λ (j : ℕ). after j (2 ^ e)) z
          (turn (get_or now (cond v (2 * b + k + 2 ^ e) (2 * b + k)) 0 % 2 ^ e)
          (get_or now (cond v (2 * b + k) (2 * b + k + 2 ^ e)) 0 % 2 ^ e)
          (ap (λ (x : ℕ). x % 2 ^ e) (lower_at v ∙ ap (λ (h : Bool). place_in now b (weight h e + k)) (sym gv)))
          (ap (λ (x : ℕ). x % 2 ^ e) (upper_at v ∙ ap (λ (h : Bool). place_in now b (weight (not h) e + k)) (sym gv)))))
