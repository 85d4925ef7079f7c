-- One network alone: controls are fixed by what they do to the words of the width (paper 02, Req 07). Assumes nothing.
use mathlib.Core.Path.{◌≡◌, refl, sym, ◌∙◌, ap, subst}
use mathlib.Core.Logic.{◌↔◌}
use mathlib.Core.Bool.{Bool, true, false, not, cond}
use mathlib.Core.List.{List}
use Prim.Native.Nat.{ℕ, ◌^◌, ◌<◌}
use native.Mathlib.Omega.{arith}
use lib.Dec.{eqb}
use lib.ListN.{take, drop, take-append-drop}
use lib.Pow.{pow_pos, pow-lt}
use borrow.Author.Tests.{lt-ltb}
use Rattle.bits.specs.Refusal.{log_of, accepted}
use Rattle.bits.proofs.Refusals.{log-width, log-le, every-answer}
use Rattle.network.specs.declared.Controls.{Controls}
use Rattle.network.specs.declared.Carried.{Carried}
use Rattle.network.specs.Stage.{butterfly_of, inverse_of}
use Rattle.network.specs.Calls.{Uses, controls_fit, network_refusal, network_answer, six, controls}
use Rattle.network.proofs.NetworkAnswers.{network-refusal-by, network-within, network-is}
use Rattle.network.proofs.CallRouting.{OwnStages, butterfly-own, inverse-own, on-stages, stages-fit, six-in-use}
use Rattle.routing.specs.Lists.{ListPermutes, butterfly_fits, inverse_fits, butterfly_alone, inverse_alone}
use Rattle.permute.specs.declared.RoutedOne.{RoutedOne}
use Rattle.permute.specs.Calls.{route_refusal, one_answer, DecidesAlone}
use Rattle.permute.specs.Alike.{Alike, sources_of, PermutesBits, call_sources, Whole, Accepts, AloneUnique, CallsUnique, GivesBack}
use Rattle.permute.proofs.Names.{names-permutes}
use Rattle.permute.proofs.OneNetwork.{butterfly-alone, inverse-alone}
use Rattle.permute.proofs.PermutationAnswers.{route-within, permutes-within, one-refusal, one_number}
use Rattle.permute.proofs.AloneAnswers.{one-within, one-carried}
use Rattle.permute.proofs.Realising.{sources-are, sources-same, butterfly-permutes, inverse-permutes}

network-number : (f : ℕ → List ℕ → ℕ → ℕ) (w : ℕ) (k : Controls) (x : ℕ) → (network_answer f w k x).refusal ≡ network_refusal w k.stages x
unfolding network_answer
network-number f w k x =
    let n = network_refusal w k.stages x in
    every-answer (λ (a : Carried). a.refusal ≡ n) n (λ r. record { refusal = r; word = 0 }) _ (λ z. refl) sym

-- At an accepted width, controls are accepted exactly if the call on any word of the width is not refused by 3.
pub accepts-exactly : (f : ℕ → List ℕ → ℕ → ℕ) (w : ℕ) (k : Controls) (x : ℕ) → accepted w ≡ true → x < 2 ^ w
    → Accepts f w k ↔ ((network_answer f w k x).refusal ≡ 3 → ⊥)
accepts-exactly f w k x a h = by (controls_fit (log_of w) 0 k.stages) refl
  where
    refused : (y : ℕ) → y < 2 ^ w → {g : Bool} → controls_fit (log_of w) 0 k.stages ≡ g → (network_answer f w k y).refusal ≡ cond (not g) 3 0
    refused y l e = network-number f w k y ∙ network-refusal-by w k.stages y a (lt-ltb y (2 ^ w) l) e

    by : (g : Bool) → controls_fit (log_of w) 0 k.stages ≡ g → Accepts f w k ↔ ((network_answer f w k x).refusal ≡ 3 → ⊥)
    by true e = (λ z q. omega (arith, refused x h e), λ n. refused 0 (pow_pos w) e)
    by false e = (λ z. absurd (omega (arith, refused 0 (pow_pos w) e)), λ n. absurd (n (refused x h e)))

-- what a call of network f on accepted controls answers
module _ (f : ℕ → List ℕ → ℕ → ℕ) (w : ℕ) (k : Controls) (a : Accepts f w k) where
  pub accepted-width : accepted w ≡ true
  accepted-width = (network-within w k.stages 0 (sym (network-number f w k 0) ∙ a)).0

  accepted-fit : controls_fit (log_of w) 0 k.stages ≡ true
  accepted-fit = (network-within w k.stages 0 (sym (network-number f w k 0) ∙ a)).2

  pub accepted-answer : (x : ℕ) → x < 2 ^ w → network_answer f w k x ≡ record { refusal = 0; word = f (log_of w) k.stages x }
  accepted-answer x h = network-is f w k x accepted-width h accepted-fit

-- of network f, whose calls on one network alone decide by `fits` and `alone`
module _ {f : ℕ → List ℕ → ℕ → ℕ} {fits : ℕ → List ℕ → Bool} {alone : ℕ → List ℕ → List ℕ} (d : DecidesAlone f fits alone) (own : OwnStages f)
    (permutes : (L : ℕ) (cs : List ℕ) → PermutesBits (2 ^ L) (f L cs))
  where
    -- controls are those that `alone` gives for the permutation that they realise
    fixed : (L : ℕ) (cs : List ℕ) → Uses L cs → let es = sources_of (2 ^ L) (f L cs) in (fits L es ≡ true) × (cs ≡ alone L es)
    fixed L cs u = let p = permutes L cs in d.exactly L (sources_of (2 ^ L) (f L cs)) p.permutation cs (u, p.realised)

    unique : AloneUnique f
    unique L cs ds u v a = (fixed L cs u).1 ∙ ap (alone L) (sources-same (2 ^ L) (f L cs) (f L ds) a) ∙ sym (fixed L ds v).1

    -- accepted controls by their stages in use: these send the words, and are all that the controls hold
    module _ (w : ℕ) (k : Controls) (whole : Whole k) (a : Accepts f w k) where
      abbrev L : ℕ
      L = log_of w

      abbrev used : List ℕ
      used = take L k.stages

      abbrev es : List ℕ
      es = call_sources w (network_answer f w k)

      abbrev fs : List ℕ
      fs = sources_of (2 ^ L) (f L used)

      width : w ≡ 2 ^ L
      width = (log-width w (accepted-width f w k a)).0

      uses : Uses L used
      uses = stages-fit L k.stages (omega (arith, log-le w, whole)) (accepted-fit f w k a)

      send : Alike w (λ x. (network_answer f w k x).word) (f L used)
      send x h =
          ap (λ (c : Carried). c.word) (accepted-answer f w k a x h)
          ∙ ap (λ (cs : List ℕ). f L cs x) (sym (take-append-drop L k.stages))
          ∙ own L used (drop L k.stages) uses.0 x

      realised : es ≡ fs
      realised =
          sources-same w (λ x. (network_answer f w k x).word) (f L used) send
          ∙ ap (λ (v : ℕ). sources_of v (f L used)) width

      within : route_refusal w es ≡ 0
      within =
          permutes-within w es (accepted-width f w k a)
          (subst (ListPermutes w) (sym realised) (subst (λ (v : ℕ). ListPermutes v fs) (sym width) (permutes L used).permutation))

      -- the call on one network, given what they realise
      controls-back : one_answer fits alone w es ≡ record { refusal = 0; controls = k }
      controls-back =
          let r = fixed L used uses in
          let t : fits L es ≡ true = ap (fits L) realised ∙ r.0 in
          let stages : six (alone L es) ≡ k.stages =
          ap six (ap (alone L) realised ∙ sym r.1) ∙ six-in-use L k.stages (log-le w) whole (accepted-fit f w k a)
          in
          one-carried w es fits alone (one-refusal w es fits ∙ (λ i. cond (eqb (within i) 0) (cond (not (t i)) 6 0) (within i)))
          ∙ ap (λ (cs : List ℕ). record { refusal = 0; controls = record { stages = cs } }) stages

    -- so controls on which the network's call answers alike are equal
    unique-calls : CallsUnique f
    unique-calls w k l hk hl a e =
        ap (λ (o : RoutedOne). o.controls)
        (sym (controls-back w k hk a)
        ∙ ap (one_answer fits alone w)
        (sources-same w (λ x. (network_answer f w k x).word) (λ x. (network_answer f w l x).word) (λ x h. ap (λ (c : Carried). c.word) (e x h)))
        ∙ controls-back w l hl (ap (λ (c : Carried). c.refusal) (sym (e 0 (pow_pos w))) ∙ a))

    -- what the controls realise that the call on one network answers
    module _ (w : ℕ) (es : List ℕ) where
      permutation-back : (one_answer fits alone w es).refusal ≡ 0 → call_sources w (network_answer f w (one_answer fits alone w es).controls) ≡ es
      permutation-back r =
          let z = sym (one_number w es fits alone) ∙ r in
          let i = one-within w es fits alone z in
          let j = route-within w es i.0 in
          let p = names-permutes w es j.1 j.2 in
          let width = (log-width w j.0).0 in
          let s : 2 ^ w ≡ 2 ^ 2 ^ log_of w = ap (λ (v : ℕ). 2 ^ v) width in
          let c = d.found (log_of w) es (rw width at p) i.1 in
          ap (λ (o : RoutedOne). call_sources w (network_answer f w o.controls)) (one-carried w es fits alone z)
          ∙ sources-are w (λ x. (network_answer f w (controls (alone (log_of w) es)) x).word) es p.long p.small
          (λ b l. let h : 2 ^ b < 2 ^ w = pow-lt l in
          ap (λ (o : Carried). o.word) (on-stages f own w (alone (log_of w) es) (2 ^ b) j.0 h c.0) ∙ c.1 (2 ^ b) (omega (arith, s)))

    gives_back : GivesBack f fits alone
    gives_back = record { controls_back = controls-back; permutation_back = permutation-back }

pub alone-unique : AloneUnique butterfly_of × AloneUnique inverse_of
alone-unique = (unique butterfly-alone butterfly-own butterfly-permutes, unique inverse-alone inverse-own inverse-permutes)

pub calls-alone-unique : CallsUnique butterfly_of × CallsUnique inverse_of
calls-alone-unique = (unique-calls butterfly-alone butterfly-own butterfly-permutes, unique-calls inverse-alone inverse-own inverse-permutes)

pub calls-give-back : GivesBack butterfly_of butterfly_fits butterfly_alone × GivesBack inverse_of inverse_fits inverse_alone
calls-give-back = (gives_back butterfly-alone butterfly-own butterfly-permutes, gives_back inverse-alone inverse-own inverse-permutes)
