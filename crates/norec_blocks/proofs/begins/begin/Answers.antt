use Rattle.std.proofs.Common.{◌≡◌, ℕ, ◌∷◌, true, length, sym, ap, subst, ◌∙◌, rules}
use Rattle.norec_blocks.proofs.Common.{Begin as Begins, Code, Core, Data, Idle, IsSound, Nest, Replies, Turns, Wait, begun, between, came, core, in_block, moved, place_of}
use Rattle.norec_core.specs.Aims as aims
use Rattle.norec_core.specs.declared.call_parts.Taking.TheVariants.{Begin}
use Rattle.norec_data.specs.declared.pending.Pending.TheVariants as waits
use Rattle.norec_blocks.proofs.Blocks.Begins.{begin_asks, begin_came, begin_denied, begun_with, denied_ends, denied_order, nested, nested_replies, nested_sound}
use Rattle.norec_blocks.proofs.begins.begin.Goals as goal

pub returns-in-Some : goal.returns-in-Some
returns-in-Some c = record {
  sound = search rules;
  proceeds = (rw c.start_call.ensures (begin_denied c.args.state.now c.args.props c.args.room c.args.again c.in-Some.why c.requires.sound (sym c.begin_refusal.ensures.refusal ∙ c.in-Some.is)));
  stays = search rules;
  order = denied_order c.args.state.now c.args.props c.args.room c.args.again c.in-Some.why c.requires.sound.bounds.deep (sym c.begin_refusal.ensures.refusal ∙ c.in-Some.is);
  ends = denied_ends c.args.state.now c.args.props c.args.room c.args.again c.in-Some.why c.requires.sound.bounds.deep (sym c.begin_refusal.ensures.refusal ∙ c.in-Some.is);
  tries = search rules;
}

pub returns-then-props : goal.returns-then-props
returns-then-props c =
    let s = c.args.state.now in
    let props = c.args.props in
    let room = c.args.room in
    let served = c.in_default.ensures.served in
    let come : c.start_call-2.new.self ≡ begun_with s props room = c.start_call-2.ensures ∙ ap (λ (frames : Nest). record s { frames = frames; spent = 0; entry = length s.log.rows }) c.in_ok-reserve_room.ensures.ok in
    let is_open = ap in_block (sym come) ∙ (sym c.is_open.ensures ∙ c.if-not-is_open.false) in
    let proceeds =
    subst (λ (mid : Core). Turns mid c.exchange.result c.exchange.new.state)
    (ap (λ (d : Data). moved (between (record d { tries = 0 }) (aims.Take (Begin props room))) s.snapshot) come ∙ begin_came s props room c.args.again served.0 served.1 is_open) (c.exchange.ensures.proceeds s.snapshot) in
    search (rules, proceeds)

-- the fields as the call came, and once the block began
come_to : (c : goal.After-enter) → c.start_call-2.new.self ≡ begun_with c.args.state.now c.args.props c.args.room
come_to c = c.start_call-2.ensures ∙ ap (λ (frames : Nest). record c.args.state.now { frames = frames; spent = 0; entry = length c.args.state.now.log.rows }) c.in_ok-reserve_room.ensures.ok

inside : (c : goal.After-enter) → in_block c.args.state.now ≡ true
inside c = ap in_block (sym (come_to c)) ∙ (sym c.is_open.ensures ∙ c.if-not-is_open.false)

entered : (c : goal.After-enter)
    → record c.start_call-2.new.self { frames = c.enter.new.self } ≡ nested c.args.state.now c.args.props c.args.room c.args.again c.in_default.ensures.served.0 c.in_default.ensures.served.1
entered c =
    let s = c.args.state.now in
    let props = c.args.props in
    let was = c.start_call-2.new.self in
    let come = come_to c in
    let enter = c.enter.ensures in
    let frames : c.enter.new.self ≡ (nested s props c.args.room c.args.again c.in_default.ensures.served.0 c.in_default.ensures.served.1).frames = (λ i. record {
      writes = (enter.writes ∙ ap (λ (d : Data). record d.frames.writes { inner = place_of d.frames.writes }) come) i;
      size = (enter.limits.size ∙ ap (λ (d : Data). d.frames.size) come) i;
      depth = (enter.limits.depth ∙ ap (λ (d : Data). d.frames.depth) come) i;
      blocks = (enter.blocks ∙ (ap (λ (n : ℕ). begun props was.frames.writes.rows was.frames.actions n ∷ was.frames.blocks) c.len.ensures.len ∙ ap (λ (d : Data). begun props d.frames.writes.rows d.frames.actions (length d.log.rows) ∷ d.frames.blocks) come)) i;
      actions = (enter.actions ∙ ap (λ (d : Data). d.frames.actions) come) i;
      room = (enter.limits.room ∙ ap (λ (d : Data). d.frames.room) come) i;
    }) in
    (λ i. record (come i) { frames = frames i })

pub returns-else-props : goal.returns-else-props
returns-else-props c = record {
  sound = record {
    asked = tt;
    sound =
        (let served = c.in_default.ensures.served in
        subst (λ (d : Data). IsSound d Idle) (sym (entered c)) (nested_sound c.args.state.now c.args.props c.args.room c.args.again served.0 served.1 (inside c) c.if-props.false c.requires.sound));
  };
  proceeds =
      (let s = c.args.state.now in
      let props = c.args.props in
      let served = c.in_default.ensures.served in
      subst (λ (d : Data). Replies (came (core s Idle) (Begins props c.args.room) c.args.again) (Begins props c.args.room) (Code 5) (core d Idle)) (sym (entered c))
      (nested_replies s props c.args.room c.args.again served.0 served.1 (inside c) c.if-props.false c.requires.sound));
  stays = search rules;
  order = search rules;
  ends = search rules;
  tries = search rules;
}

-- an outermost block loads the clock
pub returns-then-not-is_open : goal.returns-then-not-is_open
returns-then-not-is_open c =
    let s = c.args.state.now in
    let props = c.args.props in
    let room = c.args.room in
    let served = c.in_default.ensures.served in
    let come : c.start_call-2.new.self ≡ begun_with s props room = c.start_call-2.ensures ∙ ap (λ (frames : Nest). record s { frames = frames; spent = 0; entry = length s.log.rows }) c.in_ok-reserve_room.ensures.ok in
    let shut = ap in_block (sym come) ∙ (sym c.is_open.ensures ∙ c.if-not-is_open.true) in
    let proceeds = subst (λ (d : Data). Turns (came (core s Idle) (Begins props room) c.args.again) (Wait waits.Begin) (record d { tries = 1; restarted = 0; opening = record { props = props; room = room; again = c.args.again } })) (sym come)
    (begin_asks s props room c.args.again served.0 served.1 shut) in
    search (rules, proceeds)
