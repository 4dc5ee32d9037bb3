use Rattle.std.proofs.Common.{◌≡◌, Bool, false, sym, ap, ◌∙◌, rules}
use Rattle.norec_blocks.proofs.Common.{all_replies, cancelled_replies, cancelled_sound, is_kept, is_outermost, kept_replies, not_both}
use Rattle.norec_blocks.proofs.aborts.abort.Goals.{then-outer, else-outer}
use Rattle.norec_blocks.proofs.aborts.abort.Goals as goal

pub returns-then-is_kept : goal.returns-then-is_kept
returns-then-is_kept c = search (rules, kept_replies c.args.state.now c.start_call.new.self c.args.outer c.start_call.ensures c.requires.sound (sym c.is_open.ensures ∙ c.if-not-is_open.false) (sym c.is_kept.ensures ∙ c.if-is_kept.true))

pub returns-then-is_outermost : goal.returns-then-is_outermost
returns-then-is_outermost c =
    let proceeds = all_replies c.args.state.now c.start_call.new.self c.args.outer c.roll_back.new.state c.start_call.ensures c.requires.sound (record {
      is_open = sym c.is_open.ensures ∙ c.if-not-is_open.false;
      all =
          λ inner. (elim c.if-outer.branch [
            | then-outer v ↦ (let outer = v.if-outer.true in absurd (cc))
            | else-outer v ↦ sym v.is_outermost.ensures ∙ (sym v.value-is ∙ c.if-is_outermost.true)
          ]);
      may = sym c.is_kept.ensures ∙ c.if-is_kept.false;
      ended = c.roll_back.ensures.ended;
      restored = c.roll_back.ensures.restored;
    }) in
    search (rules, proceeds)

pub returns-else-is_outermost : goal.returns-else-is_outermost
returns-else-is_outermost c = record {
  sound =
      (let inner : is_outermost c.start_call.new.self.frames.blocks ≡ false = (elim c.if-outer.branch [
        | then-outer v ↦ not_both (sym v.if-outer.true ∙ (sym v.value-is ∙ c.if-is_outermost.false))
        | else-outer v ↦ sym v.is_outermost.ensures ∙ (sym v.value-is ∙ c.if-is_outermost.false)
      ]) in
      let left = c.cancel.ensures in
      record {
        asked = tt;
        sound = cancelled_sound c.args.state.now c.start_call.new.self c.cancel.new.self c.cancel.new.arena c.start_call.ensures c.requires.sound (sym c.is_open.ensures ∙ c.if-not-is_open.false) inner left.blocks left.back.rows left.back.actions left.back.limits.size left.back.limits.depth left.back.arena_size;
      });
  proceeds =
      (let may = sym c.is_kept.ensures ∙ c.if-is_kept.false in
      let outer : c.args.outer ≡ false = (elim c.if-outer.branch [
        | then-outer v ↦ (let not = c.if-is_outermost.false in let is = v.value-is in absurd (cc))
        | else-outer v ↦ v.if-outer.false
      ]) in
      let inner : is_outermost c.start_call.new.self.frames.blocks ≡ false = (elim c.if-outer.branch [
        | then-outer v ↦ (let not = c.if-is_outermost.false in let is = v.value-is in absurd (cc))
        | else-outer v ↦ sym v.is_outermost.ensures ∙ (sym v.value-is ∙ c.if-is_outermost.false)
      ]) in
      cancelled_replies c.args.state.now c.start_call.new.self c.cancel.new.self c.cancel.new.arena c.args.outer c.start_call.ensures outer c.requires.sound (record {
        is_open = sym c.is_open.ensures ∙ c.if-not-is_open.false;
        inner = inner;
        may = sym (ap (λ (o : Bool). is_kept c.start_call.new.self.frames.blocks o) outer) ∙ may;
        blocks = c.cancel.ensures.blocks;
        room = c.cancel.ensures.back.limits.room;
        depth = c.cancel.ensures.back.limits.depth;
        actions = c.cancel.ensures.back.actions;
        rows = c.cancel.ensures.back.rows;
        size = c.cancel.ensures.back.arena_size;
        left = c.cancel.ensures.back.arena;
        restored = c.cancel.ensures.back.restored;
      }));
  stays = search rules;
  order = search rules;
  ends = search rules;
  tries = search rules;
}
