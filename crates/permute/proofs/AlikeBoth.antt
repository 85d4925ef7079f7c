-- Both networks in a row: different controls may move every word alike; they do exactly if the permutations that they realise get equal first controls
-- (paper 02, Req 07). Assumes nothing.
use mathlib.Core.Path.{◌≡◌, refl, sym, ◌∙◌, ap, ap₂, subst}
use mathlib.Core.Logic.{◌↔◌}
use mathlib.Core.Bool.{true}
use mathlib.Core.List.{List, reverse}
use Prim.Native.Nat.{ℕ, ◌^◌, ◌<◌}
use native.Mathlib.Omega.{arith}
use lib.ListN.{length, get_or, take}
use lib.Pow.{pow-lt}
use borrow.Author.Tests.{lt-ltb}
use Rattle.bits.specs.Refusal.{log_of}
use Rattle.bits.proofs.Refusals.{log-width}
use Rattle.network.specs.declared.Controls.{Controls}
use Rattle.network.specs.declared.Carried.{Carried}
use Rattle.network.specs.Stage.{butterfly_of, inverse_of}
use Rattle.network.specs.Calls.{controls_fit, network_refusal, controls, network_answer}
use Rattle.network.proofs.NetworkAnswers.{network-refusal-by}
use Rattle.network.proofs.MaskRouting.{butterfly-lt, undo}
use Rattle.network.proofs.CallRouting.{stages-fit, calls-undo}
use Rattle.routing.specs.Lists.{Words, first_words}
use Rattle.permute.specs.declared.Routed.{Routed}
use Rattle.permute.specs.First.{UsesBoth}
use Rattle.permute.specs.Calls.{route_answer}
use Rattle.permute.specs.Alike.{Alike, sources_of, PermutesBits, call_sources, through_both, send_both, passing, swapping_twice, AcceptsBoth}
use Rattle.permute.proofs.Names.{names-permutes}
use Rattle.permute.proofs.Order.{first-controls}
use Rattle.permute.proofs.PermutationAnswers.{route-within, route-number, permutes-within}
use Rattle.permute.proofs.Demand3.{demand-3-calls}
use Rattle.permute.proofs.Realising.{sources-are, permutes-by, alike-sources, both-permute}
use Rattle.permute.proofs.Unique.{accepted-width, accepted-answer}

-- over every exponent

-- the first controls for the permutation that controls realise move every word as they do
as_first : (L : ℕ) (k : Words) → Alike (2 ^ L) (through_both L k) (through_both L (first_words L (sources_of (2 ^ L) (through_both L k))))
as_first L k x h =
    let p = both-permute L k in
    p.realised x h ∙ sym ((first-controls L (sources_of (2 ^ L) (through_both L k)) p.permutation).realises x h)

module _ (L : ℕ) (k l : Words) where
  pub both-sources : Alike (2 ^ L) (through_both L k) (through_both L l) ↔ (sources_of (2 ^ L) (through_both L k) ≡ sources_of (2 ^ L) (through_both L l))
  both-sources = alike-sources (2 ^ L) (through_both L k) (through_both L l) (both-permute L k) (both-permute L l)

  pub both_first : Alike (2 ^ L) (through_both L k) (through_both L l)
      ↔ (first_words L (sources_of (2 ^ L) (through_both L k)) ≡ first_words L (sources_of (2 ^ L) (through_both L l)))
  both_first = (
    λ a. ap (first_words L) (both-sources.0 a),
    λ e x h. as_first L k x h ∙ ap (λ (j : Words). through_both L j x) e ∙ sym (as_first L l x h),
  )

-- On any controls and the same reversed, both networks lead every bit back: so any two such sets move every word alike.
pub both-lead-back : (L : ℕ) (cs ds : List ℕ) → length cs ≡ L → length ds ≡ L
    → Alike (2 ^ L) (through_both L (record { butterfly = cs; inverse = reverse cs })) (through_both L (record { butterfly = ds; inverse = reverse ds }))
both-lead-back L cs ds c d x h = undo L cs c x h ∙ sym (undo L ds d x h)

-- at width 8
pub both-not-unique : UsesBoth 3 passing × UsesBoth 3 swapping_twice × (passing ≡ swapping_twice → ⊥)
    × Alike (2 ^ 3) (through_both 3 passing) (through_both 3 swapping_twice)
both-not-unique = (
  (stages-fit 3 passing.butterfly (omega arith) refl, stages-fit 3 passing.inverse (omega arith) refl),
  (stages-fit 3 swapping_twice.butterfly (omega arith) refl, stages-fit 3 swapping_twice.inverse (omega arith) refl),
  λ e. omega (arith, ap (λ (k : Words). get_or k.butterfly 2 0) e),
  both-lead-back 3 passing.butterfly swapping_twice.butterfly refl refl,
)

-- of the calls

pub calls-both-not-unique :
    let b = controls passing.butterfly in
    let i = controls passing.inverse in
    let c = controls swapping_twice.butterfly in
    let j = controls swapping_twice.inverse in
    AcceptsBoth 8 b i × AcceptsBoth 8 c j × (b ≡ c → ⊥) × (i ≡ j → ⊥) × Alike 8 (send_both 8 b i) (send_both 8 c j)
unfolding network_answer network_refusal
calls-both-not-unique = (
  (refl, refl),
  (refl, refl),
  λ e. omega (arith, ap (λ (k : Controls). get_or k.stages 2 0) e),
  λ e. omega (arith, ap (λ (k : Controls). get_or k.stages 0 0) e),
  λ x h. back (controls passing.butterfly) refl refl x h ∙ sym (back (controls swapping_twice.butterfly) refl refl x h),
)
  where
    back : (k : Controls) → length k.stages ≡ 6 → controls_fit 3 0 k.stages ≡ true → (x : ℕ) → x < 2 ^ 8
        → send_both 8 k (controls (reverse (take 3 k.stages))) x ≡ record { refusal = 0; word = x }
    back k n f x h = calls-undo 8 k x n (network-refusal-by 8 k.stages x refl (lt-ltb x (2 ^ 8) h) f)

carried_same : (a b : Carried) → a.refusal ≡ 0 → b.refusal ≡ 0 → a.word ≡ b.word → a ≡ b
carried_same a b p q e = ap₂ (λ (r y : ℕ). record { refusal = r; word = y }) (p ∙ sym q) e

-- the controls that `route` answers realise the permutation that it got
pub calls-route-back : (w : ℕ) (es : List ℕ) → (route_answer w es).refusal ≡ 0
    → call_sources w (send_both w (route_answer w es).butterfly (route_answer w es).inverse) ≡ es
calls-route-back w es z =
    let i = route-within w es (sym (route-number w es) ∙ z) in
    let p = names-permutes w es i.1 i.2 in
    sources-are w (λ x. (send_both w (route_answer w es).butterfly (route_answer w es).inverse x).word) es p.long p.small
    (λ b l. ap (λ (c : Carried). c.word) ((demand-3-calls w i.0).permutes es i.1 i.2 (2 ^ b) (pow-lt l)).1)

-- So lists that it accepts get equal answers exactly if they are equal. That it accepts the second is in the answers.
pub calls-route-injective : (w : ℕ) (es fs : List ℕ) → (route_answer w es).refusal ≡ 0 → (route_answer w es ≡ route_answer w fs) ↔ (es ≡ fs)
calls-route-injective w es fs z = (
  λ e. sym (calls-route-back w es z)
      ∙ ap (λ (a : Routed). call_sources w (send_both w a.butterfly a.inverse)) e
      ∙ calls-route-back w fs (ap (λ (a : Routed). a.refusal) (sym e) ∙ z),
  ap (route_answer w),
)

module _ (w : ℕ) (b i : Controls) (accepts : AcceptsBoth w b i) where
  abbrev k : Words
  k = record { butterfly = b.stages; inverse = i.stages }

  width : w ≡ 2 ^ log_of w
  width = (log-width w (accepted-width butterfly_of w b accepts.0)).0

  sent-both : (x : ℕ) → x < 2 ^ w → send_both w b i x ≡ record { refusal = 0; word = through_both (log_of w) k x }
  sent-both x h =
      let s : 2 ^ w ≡ 2 ^ 2 ^ log_of w = ap (λ (v : ℕ). 2 ^ v) width in
      let y = butterfly_of (log_of w) b.stages x in
      let l : y < 2 ^ w = omega (arith, butterfly-lt (log_of w) b.stages {x = x} (omega (arith, s)), s) in
      ap (λ (c : Carried). network_answer inverse_of w i c.word) (accepted-answer butterfly_of w b accepts.0 x h)
      ∙ accepted-answer inverse_of w i accepts.1 y l

  pub calls-permute : PermutesBits w (λ x. (send_both w b i x).word)
  calls-permute =
      let p = subst (λ (v : ℕ). PermutesBits v (through_both (log_of w) k)) (sym width) (both-permute (log_of w) k) in
      permutes-by w (λ x. (send_both w b i x).word) (sources_of w (through_both (log_of w) k)) p.permutation
      (λ x h. ap (λ (c : Carried). c.word) (sent-both x h) ∙ p.realised x h)

  -- route accepts what they realise
  pub calls-both-routed : (route_answer w (call_sources w (send_both w b i))).refusal ≡ 0
  calls-both-routed =
      let es = call_sources w (send_both w b i) in
      route-number w es ∙ permutes-within w es (accepted-width butterfly_of w b accepts.0) calls-permute.permutation

module _ (w : ℕ) (b i c j : Controls) (accepts : AcceptsBoth w b i) (others : AcceptsBoth w c j) where
  pub calls-both-sources : Alike w (send_both w b i) (send_both w c j) ↔ (call_sources w (send_both w b i) ≡ call_sources w (send_both w c j))
  calls-both-sources =
      let F : ℕ → ℕ = λ x. (send_both w b i x).word in
      let G : ℕ → ℕ = λ x. (send_both w c j x).word in
      let s = alike-sources w F G (calls-permute w b i accepts) (calls-permute w c j others) in (
        λ a. s.0 (λ x h. ap (λ (r : Carried). r.word) (a x h)),
        λ e x h. carried_same (send_both w b i x) (send_both w c j x) (ap (λ (r : Carried). r.refusal) (sent-both w b i accepts x h))
            (ap (λ (r : Carried). r.refusal) (sent-both w c j others x h)) (s.1 e x h),
      )

  pub calls-both-first : Alike w (send_both w b i) (send_both w c j)
      ↔ (route_answer w (call_sources w (send_both w b i)) ≡ route_answer w (call_sources w (send_both w c j)))
  calls-both-first =
      let r = calls-route-injective w (call_sources w (send_both w b i)) (call_sources w (send_both w c j)) (calls-both-routed w b i accepts) in
      (λ a. r.1 (calls-both-sources.0 a), λ e. calls-both-sources.1 (r.0 e))
