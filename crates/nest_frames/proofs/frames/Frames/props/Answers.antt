use Rattle.std.proofs.Common.{◌-◌, ◌<◌, List, length, map, ap, sym, subst, ◌∙◌, arith, Some, get_or, slice_get}
use Rattle.nest_frames.proofs.Common.{Frame, Moment, Nest}
use Rattle.nest_frames.proofs.OpenBlocks.{length-frames_of, props_at}
use Rattle.nest_frames.proofs.frames.Frames.props.Goals as goal

-- the block is open
is_open : (c : goal.After-as_slice-moments) → c.args.place < length c.as_slice-moments.result.now
is_open c =
    let f = c.self.inside in
    let blocks = ap (λ (v : Nest). length v.blocks) c.self.view_is in
    let moments = ap (length {A = Moment}) c.as_slice-moments.ensures.value in
    omega (arith, c.requires, blocks, moments, length-frames_of f.writes f.undo.olds f.moments.items)

pub overflow_sub-result-2 : goal.overflow_sub-result-2
overflow_sub-result-2 c = omega (arith, is_open c)

pub returns : goal.returns
returns c =
    let f = c.self.inside in
    let place = c.args.place in
    let m = c.index-moments-moments.result in
    let same = c.as_slice-moments.ensures.value in
    let within = subst (λ (ms : List Moment). place < length ms) same (is_open c.before) in
    sym (ap (λ (v : Nest). slice_get (map (λ (b : Frame). b.props) v.blocks) place) c.self.view_is)
    ∙ (props_at f.writes f.undo.olds f.moments.items place m within ∙ ap (λ (ms : List Moment). Some (get_or ms (length ms - 1 - place) m).props) (sym same))
