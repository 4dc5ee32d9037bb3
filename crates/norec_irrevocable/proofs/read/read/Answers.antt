use Rattle.std.proofs.Common.{ℕ, ◌++◌, sym, ap, refl, ◌∙◌, rules, arith}
use Rattle.norec_irrevocable.proofs.Common.{Data, Read, access_refusal, bytes_reply, gathered, in_block, kept, pieces_of, served, size_of}
use Rattle.std.proofs.lemmas.Grind.{common_steps}
use Rattle.norec_irrevocable.{proofs.Replies.HeldAccesses.read_comes, proofs.Replies.Refusals.refused_access}
use Rattle.norec_irrevocable.proofs.read.read.Goals as goal

pub returns-in-Some : goal.returns-in-Some
returns-in-Some c = rw c.start_call.ensures (refused_access c.args.state.now (Read c.args.hint c.args.width c.args.at) c.in-Some.why c.args.at (size_of c.args.width) c.requires.held refl (sym (c.access_refusal-refused.ensures.value ∙ ap (λ (n : ℕ). access_refusal (in_block c.args.state.now) c.args.state.now.words c.args.at n) (c.from.ensures ∙ c.size.ensures.value)) ∙ c.in-Some.is))

pub returns : goal.returns
returns c = record {
  sound = search rules;
  proceeds = search rules;
  comes =
      (λ m mem.
      (let s = c.args.state.now in
      let may = served (in_block s) s.words c.args.at (size_of c.args.width) (sym (c.access_refusal-refused.ensures.value ∙ ap (λ (n : ℕ). access_refusal (in_block s) s.words c.args.at n) (c.from.ensures ∙ c.size.ensures.value)) ∙ c.in_default.is) in
      let t = read_comes s may.0 m mem c.args.hint c.args.width c.args.at may.1 in
      (ap (λ (x : Data). kept x m) c.start_call.ensures ∙ t.0, ap bytes_reply (λ i. c.new-state.ensures i ++ gathered m (pieces_of c.args.at (c.size-2.ensures.value i))) ∙ t.1)));
  stays = search rules;
  order = grind (arith, common_steps);
  ends = search rules;
}
