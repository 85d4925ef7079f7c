-- The marked rows of paper 01, 'Reel of examples', 1 to 10b, one list: each a call with its outcome, rows 1 to 3 with the count of paper 02, Req 01, rows 10 and
-- 10b with the status byte of Req 09, and row 10b continued as Req 10 has it. Rows 11 to 13 are run, not proved. Assumes nothing.
use Rattle.std.specs.Prelude.{◌≡◌, ℕ, List, [], ◌∷◌, ◌++◌}
use Rattle.gather.specs.declared.Gathered.{Gathered}
use Rattle.network.specs.declared.Carried.{Carried}
use Rattle.network.specs.declared.Decoded.{Decoded}
use Rattle.network.specs.Stage.{butterfly_of}
use Rattle.network.specs.Calls.{network_answer, decode_answer}
use Rattle.routing.specs.Lists.{butterfly_fits, butterfly_alone, inverse_fits, inverse_alone}
use Rattle.permute.specs.declared.Routed.{Routed}
use Rattle.permute.specs.declared.RoutedOne.{RoutedOne}
use Rattle.permute.specs.Calls.{route_answer, one_answer}
use Rattle.unit.specs.declared.Bank.{Bank}
use Rattle.unit.specs.Bank.{fresh, fresh_bank, register, with_register, with_registers}
use Rattle.runs.specs.declared.Outcome.{Outcome}
use Rattle.runs.specs.Run.{run_of, continue_of}
use Rattle.gather.specs.Gather.{gather_of, scatter_of, group_of, answer_of}

-- A call of the unit, with its arguments
pub data Call : Type 0 where
  gather : (w m x : ℕ) → Call
  scatter : (w m x : ℕ) → Call
  group : (w m x : ℕ) → Call
  decode : (w m : ℕ) → Call
  through_butterfly : (w : ℕ) (stages : List ℕ) (x : ℕ) → Call
  route : (w : ℕ) (entries : List ℕ) → Call
  route_butterfly : (w : ℕ) (entries : List ℕ) → Call
  route_inverse : (w : ℕ) (entries : List ℕ) → Call
  run : (bank : Bank) (operations : List ℕ) (budget : ℕ) → Call
  continue : (bank : Bank) (operations : List ℕ) (budget : ℕ) → Call

-- the whole answer of a call as numbers, the refusal first
abbrev pub gathered : Gathered → List ℕ
gathered r = r.refusal ∷ r.count ∷ r.word ∷ []

abbrev pub carried : Carried → List ℕ
carried r = r.refusal ∷ r.word ∷ []

abbrev pub decoded : Decoded → List ℕ
decoded r = r.refusal ∷ r.butterfly.stages ++ r.inverse.stages

abbrev pub routed : Routed → List ℕ
routed r = r.refusal ∷ r.butterfly.stages ++ r.inverse.stages

abbrev pub routed_one : RoutedOne → List ℕ
routed_one r = r.refusal ∷ r.controls.stages

-- of a run, the answer, general register 1 and the status byte
abbrev pub ended : Outcome × Bank → List ℕ
ended r = r.0.refusal ∷ r.0.«end» ∷ r.0.ran ∷ r.0.cycles ∷ register r.1.registers 1 ∷ r.1.registers.status ∷ []

unfoldable pub row_outcome : Call → List ℕ
row_outcome (gather w m x) = gathered (answer_of gather_of w m x)
row_outcome (scatter w m x) = gathered (answer_of scatter_of w m x)
row_outcome (group w m x) = gathered (answer_of group_of w m x)
row_outcome (decode w m) = decoded (decode_answer w m)
row_outcome (through_butterfly w cs x) = carried (network_answer butterfly_of w (record { stages = cs }) x)
row_outcome (route w es) = routed (route_answer w es)
row_outcome (route_butterfly w es) = routed_one (one_answer butterfly_fits butterfly_alone w es)
row_outcome (route_inverse w es) = routed_one (one_answer inverse_fits inverse_alone w es)
row_outcome (run k bytes budget) = ended (run_of k bytes budget)
row_outcome (continue k bytes budget) = ended (continue_of k bytes budget)

pub record Row : Type 0 where
  pub call : Call
  pub outcome : List ℕ

-- no control bit set: a fresh register's controls
abbrev zeros : List ℕ
zeros = 0 ∷ 0 ∷ 0 ∷ 0 ∷ 0 ∷ 0 ∷ []

-- the permutation of rows 8 and 9
abbrev exchange14 : List ℕ
exchange14 = 0 ∷ 4 ∷ 2 ∷ 3 ∷ 1 ∷ 5 ∷ 6 ∷ 7 ∷ []

-- rows 10 and 10b: "fresh unit but register 2 = 0xB6, register 3 = 0xAD; list 8,0,0,3, 3,1,2,3"
abbrev loaded : Bank
loaded = with_registers fresh_bank (with_register (with_register fresh 2 0xB6) 3 0xAD)

abbrev decode_then_gather : List ℕ
decode_then_gather = 8 ∷ 0 ∷ 0 ∷ 3 ∷ 3 ∷ 1 ∷ 2 ∷ 3 ∷ []

-- Rows 1 to 10b; row 9 is on either network. A run's end: 1 is done, 2 is spent. Its status: bit 0 for done, bit 1 for spent. Row 10b continued within one cycle
-- comes to what row 10 leaves in register 1.
abbrev pub rows : List Row
rows =
    record { call = gather 8 0xAD 0xB6; outcome = 0 ∷ 5 ∷ 0x1A ∷ [] }
    ∷ record { call = scatter 8 0xAD 0x1A; outcome = 0 ∷ 5 ∷ 0xA4 ∷ [] }
    ∷ record { call = group 8 0xAD 0xB6; outcome = 0 ∷ 5 ∷ 0x7A ∷ [] }
    ∷ record { call = decode 8 0xAD; outcome = 0 ∷ 0x7 ∷ 0x1 ∷ 0x5 ∷ 0 ∷ 0 ∷ 0 ∷ 0x5 ∷ 0x1 ∷ 0x7 ∷ 0 ∷ 0 ∷ 0 ∷ [] }
    ∷ record { call = decode 8 0; outcome = 0 ∷ zeros ++ zeros }
    ∷ record { call = through_butterfly 8 zeros 0x01; outcome = 0 ∷ 0x80 ∷ [] }
    ∷ record { call = route 8 (7 ∷ 6 ∷ 5 ∷ 4 ∷ 3 ∷ 2 ∷ 1 ∷ 0 ∷ []); outcome = 0 ∷ 0xF ∷ 0xF ∷ 0xF ∷ 0 ∷ 0 ∷ 0 ∷ zeros }
    ∷ record { call = route 8 exchange14; outcome = 0 ∷ 0xD ∷ 0xF ∷ 0xF ∷ 0 ∷ 0 ∷ 0 ∷ 0xB ∷ 0xF ∷ 0xD ∷ 0 ∷ 0 ∷ 0 ∷ [] }
    ∷ record { call = route_butterfly 8 exchange14; outcome = 6 ∷ zeros }
    ∷ record { call = route_inverse 8 exchange14; outcome = 6 ∷ zeros }
    ∷ record { call = run loaded decode_then_gather 3; outcome = 0 ∷ 1 ∷ 2 ∷ 3 ∷ 0x1A ∷ 1 ∷ [] }
    ∷ record { call = run loaded decode_then_gather 2; outcome = 0 ∷ 2 ∷ 1 ∷ 2 ∷ 0 ∷ 2 ∷ [] }
    ∷ record { call = continue (run_of loaded decode_then_gather 2).1 (3 ∷ 1 ∷ 2 ∷ 3 ∷ []) 1; outcome = 0 ∷ 1 ∷ 1 ∷ 1 ∷ 0x1A ∷ 3 ∷ [] }
    ∷ []

-- every row of a list holds: its call has its outcome
abbrev pub Hold : List Row → Type 0
Hold [] = Unit
Hold (r ∷ rs) = (row_outcome r.call ≡ r.outcome) × Hold rs
