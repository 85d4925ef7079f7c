-- Demand 3, from mask routing and first controls. Assumes nothing.
use mathlib.Core.Path.{◌≡◌, refl, sym, ◌∙◌, ap, ap₂, subst}
use mathlib.Core.Bool.{true}
use mathlib.Core.List.{List}
use Prim.Native.Nat.{ℕ, ◌^◌, ◌<◌}
use native.Mathlib.Omega.{arith}
use lib.ListN.{length}
use borrow.Author.Tests.{eq-eqb, lt-ltb}
use Rattle.bits.specs.Bit.{pick}
use Rattle.bits.specs.Refusal.{log_of, accepted}
use Rattle.bits.proofs.Refusals.{log-width}
use Rattle.gather.specs.declared.Gathered.{Gathered}
use Rattle.gather.specs.Gather.{gather_of, scatter_of, refusal_of, answer_of}
use Rattle.gather.proofs.MaskAnswers.{refusal-by, carried-out}
use Rattle.network.specs.Stage.{butterfly_of, inverse_of}
use Rattle.network.specs.Calls.{controls, network_answer, decode_answer}
use Rattle.network.specs.declared.Carried.{Carried}
use Rattle.network.proofs.MaskRouting.{mask-routing-scatter, mask-routing-gather, butterfly-lt}
use Rattle.network.proofs.NetworkAnswers.{decode-refusal-by}
use Rattle.network.proofs.CallRouting.{calls-route-scatter, calls-route-gather, on-stages, butterfly-own, inverse-own}
use Rattle.routing.specs.Lists.{Words, first_words}
use Rattle.permute.specs.declared.Routed.{Routed}
use Rattle.permute.specs.Permutation.{names_once}
use Rattle.permute.specs.First.{First}
use Rattle.permute.specs.Calls.{route_answer, stages_in}
use Rattle.permute.specs.Demand3.{Demand3, Demand3Calls}
use Rattle.permute.proofs.FirstWords.{in_use_lem}
use Rattle.permute.proofs.Order.{first-controls}
use Rattle.permute.proofs.Names.{names-permutes}
use Rattle.permute.proofs.PermutationAnswers.{route-refusal-by}

pub demand-3 : (L : ℕ) → Demand3 L
demand-3 L =
    record {
      scatters = λ m x h l. mask-routing-scatter L m x h;
      gathers = λ m x h l. mask-routing-gather L m x h;
      routes = λ es p. first-controls L es p;
    }

module _ (w : ℕ) (a : accepted w ≡ true) where
  width : w ≡ 2 ^ log_of w
  width = (log-width w a).0

  -- the calls on a mask and a word
  module _ (m x : ℕ) (h : m < 2 ^ w) (l : x < 2 ^ w) where
    allowed : refusal_of w m x ≡ 0
    allowed = refusal-by w m x a (lt-ltb x (2 ^ w) l) (lt-ltb m (2 ^ w) h)

    decoded : (decode_answer w m).refusal ≡ 0
    unfolding decode_answer
    decoded = rw (decode-refusal-by w m a (lt-ltb m (2 ^ w) h))

    answered : (f : ℕ → ℕ → ℕ → ℕ) → (answer_of f w m x).refusal ≡ 0
    answered f = ap (λ (r : Gathered). r.refusal) (sym (carried-out w m x f (sym allowed) refl refl))

  -- the calls on a permutation
  module _ (es : List ℕ) (l : length es ≡ w) (n : names_once w es ≡ true) where
    abbrev k : Words
    k = first_words (log_of w) es

    -- the answer is the first controls
    routed : route_answer w es ≡ record { refusal = 0; butterfly = controls k.butterfly; inverse = controls k.inverse }
    unfolding route_answer
    routed = rw (route-refusal-by w es a (eq-eqb (length es) w l) n)

    first : First (log_of w) (first_words (log_of w) es) es
    first = first-controls (log_of w) es (rw width at (names-permutes w es l n))

    stages : stages_in (log_of w) (route_answer w es) ≡ first_words (log_of w) es
    stages =
        ap (stages_in (log_of w)) routed
        ∙ λ i.
        record {
          butterfly = in_use_lem (log_of w) k.butterfly first.controls.0.0 i;
          inverse = in_use_lem (log_of w) k.inverse first.controls.1.0 i;
        }

    module _ (x : ℕ) (h : x < 2 ^ w) where
      abbrev y : ℕ
      y = butterfly_of (log_of w) k.butterfly x

      sent : network_answer butterfly_of w (route_answer w es).butterfly x ≡ record { refusal = 0; word = y }
      sent =
          ap (λ (r : Routed). network_answer butterfly_of w r.butterfly x) routed
          ∙ on-stages butterfly_of butterfly-own w k.butterfly x a h first.controls.0

      permuted : network_answer inverse_of w (route_answer w es).inverse (network_answer butterfly_of w (route_answer w es).butterfly x).word
          ≡ record { refusal = 0; word = pick es x }
      permuted =
          let s : 2 ^ w ≡ 2 ^ 2 ^ log_of w = ap (λ (v : ℕ). 2 ^ v) width in
          let hy : y < 2 ^ w = omega (arith, butterfly-lt (log_of w) k.butterfly {x = x} (omega (arith, s)), s) in
          ap₂ (λ (r : Routed) (c : Carried). network_answer inverse_of w r.inverse c.word) routed sent
          ∙ on-stages inverse_of inverse-own w k.inverse y a hy first.controls.1
          ∙ ap (λ (z : ℕ). record { refusal = 0; word = z }) (first.realises x (omega (arith, s)))

  pub demand-3-calls : Demand3Calls w
  demand-3-calls =
      record {
        scatters = λ m x h l.
            let r = calls-route-scatter w m x (allowed m x h l) in (decoded m x h l, r.0, answered m x h l scatter_of, r.1);
        gathers = λ m x h l.
            let r = calls-route-gather w m x (allowed m x h l) in (decoded m x h l, r.0, answered m x h l gather_of, r.1);
        routes = λ es l n. (
          ap (λ (r : Routed). r.refusal) (routed es l n),
          subst (λ (r : Words). First (log_of w) r es) (sym (stages es l n)) (first es l n),
        );
        permutes = λ es l n x h. (ap (λ (r : Carried). r.refusal) (sent es l n x h), permuted es l n x h);
      }
