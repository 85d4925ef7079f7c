-- The marked rows hold: one test, computed over the whole list by the definitions, and the law that reads it row by row. Assumes nothing.
use mathlib.Core.Path.{◌≡◌, refl}
use mathlib.Core.Bool.{Bool, true, ◌&&◌}
use mathlib.Core.List.{List, [], ◌∷◌}
use Rattle.bits.specs.Bit.{bit, of_bits, rank, places, pick, put}
use Rattle.bits.proofs.Refusals.{both}
use Rattle.network.specs.Stage.{switch_of, partner, source, stage, travel, falling, rising, butterfly_of, inverse_of}
use Rattle.network.specs.Decoder.{turn, turned, control_at, decoded_stage, decode_of, decode_inverse_of}
use Rattle.network.specs.Calls.{network_refusal, network_answer, decode_refusal, decode_answer}
use Rattle.gather.specs.Gather.{gather_of, scatter_of, group_of, refusal_of, answer_of}
use Rattle.routing.specs.Place.{weight, num, place, at, tab}
use Rattle.routing.specs.Loop.{flip, side, least, first_stage, last_stage, between}
use Rattle.routing.specs.Loop as loop
use Rattle.routing.specs.Net.{half, part, join, first_net}
use Rattle.routing.specs.Stages.{tree_control, flat}
use Rattle.routing.specs.Stages as placed
use Rattle.routing.specs.FirstControls.{on_places, first_controls}
use Rattle.routing.specs.Alone.{forced, butterfly_controls, inverse_controls, every_below, butterfly_test, inverse_test}
use Rattle.routing.specs.Lists.{find, controls_of, word_of, control_in, butterfly_words, inverse_words, words_of, first_words, butterfly_fits, inverse_fits, butterfly_alone, inverse_alone}
use Rattle.permute.specs.Permutation.{absent, names_once}
use Rattle.permute.specs.Calls.{route_refusal, route_answer, one_refusal, one_answer}
use Rattle.unit.specs.Operation.{cycles_of, load_of, effect_of}
use Rattle.runs.specs.StatusByte.{with_bit}
use Rattle.runs.specs.Run.{operations_of, steps_of, sum_of, ran_of, any_kind, any_register, run_refusal, perform_of, same}
use Rattle.runs.proofs.Remainders.{same-eq}
use Rattle.examples.specs.Rows.{Row, row_outcome, rows, Hold}

all_hold : List Row → Bool
all_hold [] = true
all_hold (r ∷ rs) = same (row_outcome r.call) r.outcome && all_hold rs

holds : (rs : List Row) → all_hold rs ≡ true → Hold rs
unfolding all_hold
holds [] t = tt
holds (r ∷ rs) t =
    let b = both (same (row_outcome r.call) r.outcome) (all_hold rs) t in
    (same-eq (row_outcome r.call) r.outcome b.0, holds rs b.1)

test : all_hold rows ≡ true
unfolding all_hold same row_outcome answer_of refusal_of gather_of scatter_of group_of pick put places of_bits bit rank
    network_answer network_refusal butterfly_of travel stage source partner switch_of falling
    decode_answer decode_refusal decode_of decode_inverse_of decoded_stage control_at turned turn
    route_answer route_refusal one_answer one_refusal names_once absent first_words butterfly_fits inverse_fits butterfly_alone inverse_alone
    controls_of find word_of words_of control_in butterfly_words inverse_words first_controls on_places first_net half part join tree_control flat
    weight num place at tab flip side loop.sent loop.loop_turn least first_stage last_stage between
    forced butterfly_controls inverse_controls every_below butterfly_test inverse_test
    placed.switch_at placed.partner_at placed.through placed.butterfly placed.inverse
    perform_of with_bit run_refusal operations_of steps_of sum_of ran_of any_kind any_register cycles_of load_of effect_of inverse_of rising
test = refl

-- Every marked row: its call has its outcome.
pub rows-hold : Hold rows
rows-hold = holds rows test
