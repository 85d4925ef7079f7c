-- The networks of crate network and those of crate routing move bits alike: the place that each place's bit comes from. Assumes nothing.
use mathlib.Core.Path.{◌≡◌, refl, sym, ◌∙◌, ap, ap₂}
use mathlib.Core.Logic.{◌⊎◌, inl, inr}
use mathlib.Core.Bool.{Bool, cond}
use mathlib.Core.List.{List, [], ◌∷◌, ◌++◌}
use Prim.Native.Nat.{ℕ, zero, suc, ◌+◌, ◌-◌, ◌*◌, ◌/◌, ◌%◌, ◌^◌, ◌<◌, ◌≤◌}
use native.Mathlib.Omega.{arith}
use native.Mathlib.Nat.{pow-suc, div-div-eq-div-mul}
use lib.Dec.{eqb}
use lib.ListN.{length, get_or, take}
use lib.Seq.{take-suc, take-length, length-take-le}
use Rattle.bits.specs.Bit.{bit}
use Rattle.bits.proofs.Word.{bit-cases}
use Rattle.network.specs.Stage.{falling, rising}
use Rattle.network.specs.Stage as word
use Rattle.network.proofs.Travel.{origin, length-rising}
use Rattle.routing.specs.Stages.{through}
use Rattle.routing.specs.Stages as place
use Rattle.routing.specs.Lists.{control_in, butterfly_from, inverse_from}

-- one stage

switch-same : (e p : ℕ) → place.switch_at e p ≡ word.switch_of (2 ^ e) p
unfolding place.switch_at word.switch_of
switch-same e p =
    ap (λ (n : ℕ). n * 2 ^ e + p % 2 ^ e) (ap (λ (n : ℕ). p / n) (pow-suc 2 e) ∙ sym (div-div-eq-div-mul p (2 ^ e) 2))

through-source : (e c p : ℕ) → through e (control_in c) p ≡ word.source (2 ^ e) c p
unfolding through word.source place.partner_at word.partner control_in bit
through-source e c p =
    ap (λ (s : ℕ). cond (eqb (bit c s) 0) (word.partner (2 ^ e) p) p) (switch-same e p) ∙ by_cases (bit-cases c (word.switch_of (2 ^ e) p))
  where
    by_cases : (bit c (word.switch_of (2 ^ e) p) ≡ 0) ⊎ (bit c (word.switch_of (2 ^ e) p) ≡ 1)
        → cond (eqb (bit c (word.switch_of (2 ^ e) p)) 0) (word.partner (2 ^ e) p) p
        ≡ cond (eqb (bit c (word.switch_of (2 ^ e) p)) 1) p (word.partner (2 ^ e) p)
    by_cases (inl z) = rw z
    by_cases (inr o) = rw o

-- both networks

butterfly-origin : (n : ℕ) (cs : List ℕ) (c : ℕ → ℕ → Bool) → length cs ≡ n → ((e : ℕ) → e < n → c e ≡ control_in (get_or cs (n - suc e) 0))
    → (p : ℕ) → place.butterfly n c p ≡ origin (falling n) cs p
unfolding place.butterfly origin falling
butterfly-origin zero cs c l f p = refl
butterfly-origin (suc n) [] c l f p = absurd (omega arith)
butterfly-origin (suc n) (k ∷ cs) c l f p =
    let z : suc n - suc n ≡ 0 = omega arith in
    let top : c n ≡ control_in k = f n (omega arith) ∙ ap (λ (i : ℕ). control_in (get_or (k ∷ cs) i 0)) z in
    let rest : (e : ℕ) → e < n → c e ≡ control_in (get_or cs (n - suc e) 0) =
    λ e h. let s : suc n - suc e ≡ suc (n - suc e) = omega arith in
    f e (omega arith) ∙ ap (λ (i : ℕ). control_in (get_or (k ∷ cs) i 0)) s
    in
    ap₂ (through n) top (butterfly-origin n cs c (omega arith) rest p) ∙ through-source n k (origin (falling n) cs p)

origin-last : (ds cs : List ℕ) → length cs ≡ length ds → (d c p : ℕ) → origin (ds ++ (d ∷ [])) (cs ++ (c ∷ [])) p ≡ origin ds cs (word.source d c p)
unfolding origin
origin-last [] [] e d c p = refl
origin-last [] (b ∷ cs) e d c p = absurd (omega arith)
origin-last (a ∷ ds) [] e d c p = absurd (omega arith)
origin-last (a ∷ ds) (b ∷ cs) e d c p = ap (word.source a b) (origin-last ds cs (omega arith) d c p)

inverse-origin : (n : ℕ) (cs : List ℕ) (c : ℕ → ℕ → Bool) → n ≤ length cs → ((e : ℕ) → e < n → c e ≡ control_in (get_or cs e 0))
    → (p : ℕ) → place.inverse n c p ≡ origin (rising n) (take n cs) p
unfolding place.inverse origin rising
inverse-origin zero cs c l f p = refl
inverse-origin (suc n) cs c l f p =
    let e = get_or cs n 0 in
    let t : take (suc n) cs ≡ take n cs ++ (e ∷ []) = take-suc cs n 0 l in
    let q : length (take n cs) ≡ length (rising n) = length-take-le n cs (omega arith) ∙ sym (length-rising n) in
    inverse-origin n cs c (omega arith) (λ i h. f i (omega arith)) (through n (c n) p)
    ∙ ap (origin (rising n) (take n cs)) (ap (λ (k : ℕ → Bool). through n k p) (f n (omega arith)) ∙ through-source n e p)
    ∙ sym (ap (λ (es : List ℕ). origin (rising n ++ (2 ^ n ∷ [])) es p) t ∙ origin-last (rising n) (take n cs) q (2 ^ n) e p)

-- of L stages, as lists of words

module _ (L : ℕ) (cs : List ℕ) (long : length cs ≡ L) (p : ℕ) where
  pub butterfly-from : place.butterfly L (butterfly_from L cs) p ≡ origin (falling L) cs p
  unfolding butterfly_from
  butterfly-from = butterfly-origin L cs (butterfly_from L cs) long (λ e h. refl) p

  pub inverse-from : place.inverse L (inverse_from cs) p ≡ origin (rising L) cs p
  unfolding inverse_from
  inverse-from =
      let t : take L cs ≡ cs = ap (λ (n : ℕ). take n cs) (sym long) ∙ take-length cs in
      inverse-origin L cs (inverse_from cs) (omega arith) (λ e h. refl) p ∙ ap (λ (ds : List ℕ). origin (rising L) ds p) t
