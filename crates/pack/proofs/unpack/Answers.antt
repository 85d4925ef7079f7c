-- `pack::unpack` meets its contract. Assumes nothing.
use lib.ListN.{length}
use Rattle.pack.specs.Fields.{size_of}
use Rattle.pack.proofs.FieldAnswers.{InLimits, unpack-within, refusal-answered, cut-answered, cut-room, cut-filled}
use Rattle.pack.proofs.unpack.Goals as goal
use Rattle.pack.proofs.unpack.Goals.{In-Ok}

-- a call that is not refused is within the limits
allowed : (c : In-Ok)
    → let a = c.args in
    InLimits (size_of a.mask) a.a a.b (length a.out.now) (length a.packed.now)
allowed c = (unpack-within _ _ _ _ _ c.in-Ok.ensures.3).0

pub slice_bounds-read_fields-end : goal.slice_bounds-read_fields-end
slice_bounds-read_fields-end c = (allowed (goal.at.slice_bounds-read_fields-end c).In-Ok).end

pub read_fields-requires : goal.read_fields-requires
read_fields-requires c =
    let o = (goal.at.read_fields-requires c).In-Ok in
    let w = allowed o in
    rw o.in-Ok.ensures.0 (cut-room _ _ _ w.start w.end _ w.room)

pub returns-in-Ok : goal.returns-in-Ok
returns-in-Ok c =
    let e = c.in-Ok.ensures in
    let w = allowed (goal.at.returns-in-Ok c).In-Ok in
    cut-answered _ _ _ _ _ _ e.3 (rw (e.0, e.1, e.2) at c.answer.ensures) (cut-filled _ _ _ w.start w.end _ _ (rw e.0 at c.read_fields.ensures))

pub returns-in-Err : goal.returns-in-Err
returns-in-Err c = refusal-answered _ _ _ _ _ _ c.in-Err.refusal c.in-Err.ensures c.from.ensures
