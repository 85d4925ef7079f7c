-- `network::decode` meets its contract. Assumes nothing.
use mathlib.Core.Path.{◌∙◌}
use native.Mathlib.Omega.{arith}
use Rattle.network.proofs.NetworkAnswers.{is_64, decode-refused, decode-accepted, decode-in-use}
use Rattle.network.proofs.decode.Goals as goal

pub returns-in-Err : goal.returns-in-Err
returns-in-Err c = let a = c.args in c.from.ensures ∙ decode-refused a.width a.mask c.in-Err.refusal c.in-Err.ensures

pub returns-in-8 : goal.returns-in-8
returns-in-8 c = let a = c.args in c.both_networks.ensures ∙ decode-in-use a.width a.mask c.in_default.ensures 3 (rw c.in-8.is) c.decode_64-wide.ensures

pub returns-in-16 : goal.returns-in-16
returns-in-16 c = let a = c.args in c.both_networks-in-16.ensures ∙ decode-in-use a.width a.mask c.in_default.ensures 4 (rw c.in-16.is) c.decode_64-wide.ensures

pub returns-in-32 : goal.returns-in-32
returns-in-32 c = let a = c.args in c.both_networks-in-32.ensures ∙ decode-in-use a.width a.mask c.in_default.ensures 5 (rw c.in-32.is) c.decode_64-wide.ensures

pub returns-in_default-width : goal.returns-in_default-width
returns-in_default-width c =
    let a = c.args in
    let l = is_64 a.width (decode-accepted a.width a.mask c.in_default.ensures) (λ q. omega arith) (λ q. omega arith) (λ q. omega arith) in
    c.both_networks-in_default-width.ensures ∙ decode-in-use a.width a.mask c.in_default.ensures 6 l c.decode_64-wide.ensures
