-- Controls that move every word alike, and the permutation that controls realise (paper 02, Req 07). Assumes nothing.
use Rattle.std.specs.Prelude.{◌≡◌, Bool, List, [], ◌∷◌, ℕ, ◌^◌, ◌<◌, length}
use Rattle.bits.specs.Bit.{bit, up_to, pick}
use Rattle.network.specs.declared.Controls.{Controls}
use Rattle.network.specs.declared.Carried.{Carried}
use Rattle.network.specs.Stage.{butterfly_of, inverse_of}
use Rattle.network.specs.Calls.{Uses, controls, network_answer}
use Rattle.routing.specs.Lists.{Words, find, ListPermutes}
use Rattle.permute.specs.Calls.{one_answer}

-- F and G "move every word alike", each of w bits
abbrev pub Alike : {A : Type 0} → ℕ → (ℕ → A) → (ℕ → A) → Type 0
Alike w F G = (x : ℕ) → x < 2 ^ w → F x ≡ G x

-- the permutation of w places that F realises: entry p is the bit that, sent alone, comes to place p
unfoldable pub sources_of : ℕ → (ℕ → ℕ) → List ℕ
sources_of w F = up_to w (λ p. find 1 (up_to w (λ b. bit (F (2 ^ b)) p)))

-- F does realise one, on every word of w bits
pub record PermutesBits (w : ℕ) (F : ℕ → ℕ) : Type 0 where
  pub permutation : ListPermutes w (sources_of w F)
  pub realised : (x : ℕ) → x < 2 ^ w → F x ≡ pick (sources_of w F) x

-- of a call, as it answers each word
abbrev pub call_sources : ℕ → (ℕ → Carried) → List ℕ
call_sources w call = sources_of w (λ x. (call x).word)

-- a word through both networks, and by the calls
abbrev pub through_both : ℕ → Words → ℕ → ℕ
through_both L k x = inverse_of L k.inverse (butterfly_of L k.butterfly x)

abbrev pub send_both : ℕ → Controls → Controls → ℕ → Carried
send_both w b i x = network_answer inverse_of w i (network_answer butterfly_of w b x).word

-- "For both networks in a row this fails": at width 8 every switch passes, or those of the butterfly's last and of the inverse's first stage swap.

abbrev pub passing : Words
passing = record { butterfly = 0xF ∷ 0xF ∷ 0xF ∷ []; inverse = 0xF ∷ 0xF ∷ 0xF ∷ [] }

abbrev pub swapping_twice : Words
swapping_twice = record { butterfly = 0xF ∷ 0xF ∷ 0x0 ∷ []; inverse = 0x0 ∷ 0xF ∷ 0xF ∷ [] }

-- Controls as they are handed over: as many stages as in those that a call answers.
abbrev pub Whole : Controls → Type 0
Whole k = length k.stages ≡ length (controls []).stages

-- The call of network f accepts them at width w: on the word zero, which is of every width, it is carried out.
abbrev pub Accepts : (ℕ → List ℕ → ℕ → ℕ) → ℕ → Controls → Type 0
Accepts f w k = (network_answer f w k 0).refusal ≡ 0

abbrev pub AcceptsBoth : ℕ → Controls → Controls → Type 0
AcceptsBoth w b i = Accepts butterfly_of w b × Accepts inverse_of w i

-- "For one network they want it guaranteed: at one width, two accepted settings move every word alike only if they are equal." Over every exponent:
abbrev pub AloneUnique : (ℕ → List ℕ → ℕ → ℕ) → Type 0
AloneUnique f = (L : ℕ) (cs ds : List ℕ) → Uses L cs → Uses L ds → Alike (2 ^ L) (f L cs) (f L ds) → cs ≡ ds

-- Of the calls. That l is accepted too is in the answers, which are alike.
abbrev pub CallsUnique : (ℕ → List ℕ → ℕ → ℕ) → Type 0
CallsUnique f = (w : ℕ) (k l : Controls) → Whole k → Whole l → Accepts f w k → Alike w (network_answer f w k) (network_answer f w l) → k ≡ l

-- So either can be stored for the other: the call on one network gives back the controls whose permutation it gets, and its controls realise that permutation.
pub record GivesBack (f : ℕ → List ℕ → ℕ → ℕ) (fits : ℕ → List ℕ → Bool) (alone : ℕ → List ℕ → List ℕ) : Type 0 where
  pub controls_back : (w : ℕ) (k : Controls) → Whole k → Accepts f w k
      → one_answer fits alone w (call_sources w (network_answer f w k)) ≡ record { refusal = 0; controls = k }
  pub permutation_back : (w : ℕ) (entries : List ℕ) → (one_answer fits alone w entries).refusal ≡ 0
      → call_sources w (network_answer f w (one_answer fits alone w entries).controls) ≡ entries
