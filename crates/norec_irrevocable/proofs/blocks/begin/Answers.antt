use Rattle.std.proofs.Common.{◌≡◌, ℕ, ◌∷◌, sym, ap, ◌∙◌, true, length, ◌<◌, rules, Option, subst}
use Rattle.norec_irrevocable.proofs.Common.{Answer, Begin, Data, EndIrrevocable, TurnEndsSo, begun, may_go}
use Rattle.norec_irrevocable.proofs.Replies.KeptStates.{begin_kept}
use Rattle.write_set.specs.Marks.{Written}
use Rattle.norec_irrevocable.proofs.Replies.HeldBlocks.{HasEntered, begin_entered, begin_comes}
use Rattle.norec_irrevocable.proofs.Replies.Refusals.{begin_ending, begin_stage, refused_turn}
use Rattle.norec_data.specs.declared.end.CallEnd.TheVariants as ends
use Rattle.norec_irrevocable.proofs.blocks.begin.Goals as goal

pub returns-in-Some : goal.returns-in-Some
returns-in-Some c = (let s = c.args.state.now in
    rw c.start_call.ensures (refused_turn s (Begin c.args.props c.args.room) c.in-Some.why c.requires.held (λ m mem. begin_kept s.frames.blocks s.arena s.frames.actions m s.frames.depth c.args.props c.args.room ∙ (sym c.begin_refusal-refused.ensures.refusal ∙ c.in-Some.is)) (begin_stage s c.args.props c.args.room c.requires.held.is_open) (begin_ending s c.args.props c.args.room)))

served_so : (c : goal.After-enter) → (may_go c.args.state.now.frames.blocks c.args.props ≡ true) × (length c.args.state.now.frames.blocks < c.args.state.now.frames.depth)
served_so c = rw c.in-None.is at c.begin_refusal-refused.ensures.served

entered : (c : goal.After-enter) → HasEntered c.args.state.now c.args.props (record c.start_call.new.self { frames = c.enter.new.self })
entered c = record {
  blocks = (let come = c.start_call.new.self in
      c.enter.ensures.blocks
      ∙ (ap (λ (n : ℕ). begun c.args.props come.frames.writes.rows come.frames.actions n ∷ come.frames.blocks) c.len.ensures.len
      ∙ ap (λ (x : Data). begun c.args.props x.frames.writes.rows x.frames.actions (length x.log.rows) ∷ x.frames.blocks) c.start_call.ensures));
  rows = ap (λ (w : Written). w.rows) c.enter.ensures.writes ∙ ap (λ (x : Data). x.frames.writes.rows) c.start_call.ensures;
  actions = c.enter.ensures.actions ∙ ap (λ (x : Data). x.frames.actions) c.start_call.ensures;
  room = c.enter.ensures.limits.room ∙ ap (λ (x : Data). x.frames.room) c.start_call.ensures;
  depth = c.enter.ensures.limits.depth ∙ ap (λ (x : Data). x.frames.depth) c.start_call.ensures;
  others = ap (λ (x : Data). record x { frames = c.enter.new.self }) c.start_call.ensures;
}

pub returns-in-None : goal.returns-in-None
returns-in-None c =
    let served = served_so c in
    search (rules, begin_entered c.args.state.now (record c.start_call.new.self { frames = c.enter.new.self }) c.args.props c.args.room c.requires.held.is_open served.0 served.1 (entered c), begin_comes c.args.state.now (record c.start_call.new.self { frames = c.enter.new.self }) c.args.props c.args.room c.requires.held.is_open served.0 served.1 (entered c), sym (begin_stage c.args.state.now c.args.props c.args.room c.requires.held.is_open), subst (λ (so : Option Answer). TurnEndsSo so (EndIrrevocable ends.Entered) (record c.start_call.new.self { frames = c.enter.new.self })) (sym (begin_ending c.args.state.now c.args.props c.args.room)) tt)
