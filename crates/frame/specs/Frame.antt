-- Four channels in one frame, paper 02, Req 11. Everything here is of any number of channels. Assumes nothing.
use Rattle.std.specs.Prelude.{ℕ, suc, ◌+◌, ◌-◌, Bool, false, not, cond, ◌&&◌, ◌||◌, List, [], ◌∷◌, ◌++◌, map, eqb, ltb, get_or, drop, replicate}
use Rattle.bits.specs.Refusal.{lowest}
use Rattle.unit.specs.declared.Registers.{Registers}
use Rattle.unit.specs.declared.Bank.{Bank}
use Rattle.unit.specs.Bank.{waits}
use Rattle.runs.specs.declared.Turn.{Turn}
use Rattle.runs.specs.declared.Outcome.{Outcome}
use Rattle.runs.specs.Run.{operations_of, run_conditions, reaching, turn_of, outcome_of, refused_of, is_remainder}
use Rattle.frame.specs.declared.Channel.{Channel}
use Rattle.frame.specs.declared.Frame.{Frame}

-- "Picture, sound, subtitles and automation each have a bank and a list, numbered 0 to 3", "Each channel has a guarantee": what a channel brings to a frame
pub record Brought : Type 0 where
  pub bank : Bank
  pub bytes : List ℕ
  pub guarantee : ℕ

-- channels from number n on, of these banks, lists and guarantees
abbrev pub brought_from : ℕ → List Bank → List (List ℕ) → List ℕ → List Brought
brought_from n [] ls gs = []
brought_from n (k ∷ ks) [] gs = []
brought_from n (k ∷ ks) (l ∷ ls) gs = record { bank = k; bytes = l; guarantee = get_or gs n 0 } ∷ brought_from (suc n) ks ls gs

abbrev pub brought_by : List Bank → List (List ℕ) → List ℕ → List Brought
brought_by ks ls gs = brought_from 0 ks ls gs

-- "In number order each runs within its guarantee"
abbrev pub first_turn : Brought → Turn × Registers
first_turn c = turn_of c.bank.registers (operations_of c.bytes) c.guarantee

-- "then what the four left of their guarantees is one sum"
unfoldable pub rest_of : List Brought → ℕ
rest_of [] = 0
rest_of (c ∷ cs) = (c.guarantee - (first_turn c).0.cycles) + rest_of cs

-- A channel runs on from where its first turn stopped, within what it is offered; one that is done has no operation left.
abbrev pub second_turn : Brought → ℕ → Turn × Registers
second_turn c rest = turn_of (first_turn c).1 (drop (first_turn c).0.ran (operations_of c.bytes)) rest

-- two turns, one after the other: operations and cycles together, and the registers after both
abbrev pub together : Turn × Registers → Turn × Registers → Turn × Registers
together t u = reaching (record { ran = t.0.ran + u.0.ran; cycles = t.0.cycles + u.0.cycles }) u.1

-- "offered in number order to those not done"; "a channel not done at the frame's end waits as in Req 10, and each bank's status is set once, then": after both
-- turns each channel ends once, as a run does
unfoldable pub offered_of : ℕ → List Brought → List (Outcome × Bank)
offered_of rest [] = []
offered_of rest (c ∷ cs) =
    let u = second_turn c rest in
    outcome_of c.bank c.bytes (together (first_turn c) u) ∷ offered_of (rest - u.0.cycles) cs

-- "A list is a continued run where its bank waits, else a new one": 14, the bank waits and the list is not its remainder
abbrev pub other_waits : Brought → Bool
other_waits c = waits c.bank.registers && not (is_remainder c.bank.registers.left c.bank.list c.bytes)

-- does the condition of a number hold, in a list of conditions?
abbrev pub applying : ℕ → List (ℕ × Bool) → Bool
applying n [] = false
applying n (c ∷ cs) = cond (eqb n c.0) c.1 (applying n cs)

-- of some channel, as of a run of its list?
abbrev pub applying_to_some : ℕ → List Brought → Bool
applying_to_some n [] = false
applying_to_some n (c ∷ cs) = applying n (run_conditions (other_waits c) c.bytes) || applying_to_some n cs

-- the sum of the guarantees
unfoldable pub guaranteed : List Brought → ℕ
guaranteed [] = 0
guaranteed (c ∷ cs) = c.guarantee + guaranteed cs

-- "Any refusal, the lowest number over all four lists"
abbrev pub list_numbers : List ℕ
list_numbers = 4 ∷ 7 ∷ 8 ∷ 14 ∷ []

abbrev pub lists_conditions : List Brought → List (ℕ × Bool)
lists_conditions cs = map (λ n. (n, applying_to_some n cs)) list_numbers

-- "15, the guarantees sum above F, after 14"
abbrev pub frame_conditions : List Brought → ℕ → List (ℕ × Bool)
frame_conditions cs cycles = lists_conditions cs ++ ((15, ltb cycles (guaranteed cs)) ∷ [])

unfoldable pub frame_refusal : List Brought → ℕ → ℕ
frame_refusal cs cycles = lowest (frame_conditions cs cycles)

-- "The frame answers for each channel as a run does"
abbrev pub channel_of : Outcome → Channel
channel_of o = record { «end» = o.«end»; ran = o.ran; cycles = o.cycles }

-- what a refused frame answers: its number, zeros beside it
abbrev pub refused_answer : ℕ → Frame
refused_answer r = record { refusal = r; channels = replicate 4 (record { «end» = 0; ran = 0; cycles = 0 }) }

-- an answer, and beside it the banks that the call leaves
abbrev pub leaving_all : {A : Type 0} → A → List Bank → A × List Bank
leaving_all a ks = (a, ks)

abbrev pub framed_of : ℕ → List (Outcome × Bank) → Frame × List Bank
framed_of r os = leaving_all (record { refusal = r; channels = map (λ o. channel_of o.0) os }) (map (λ o. o.1) os)

-- A refusal "turns the frame back before a channel starts and sets status bit 2 in all four banks": each channel is as a refused run leaves it.
abbrev pub refused_frame : List Brought → ℕ → Frame × List Bank
refused_frame cs r = framed_of r (map (λ c. refused_of c.bank r) cs)

-- "one frame has F cycles": a frame, carried out or refused
unfoldable pub frame_of : List Brought → ℕ → Frame × List Bank
frame_of cs cycles =
    cond (eqb (frame_refusal cs cycles) 0) (framed_of 0 (offered_of (rest_of cs) cs)) (refused_frame cs (frame_refusal cs cycles))
