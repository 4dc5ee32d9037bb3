use Rattle.std.proofs.Common.{◌≡◌, subst, ◌∙◌}
use Rattle.script_vm.proofs.Common.{Thread, at_block, depth_of}
use Rattle.script_vm.proofs.InnerRestarts.{entered_again}
use Rattle.script_vm.proofs.script.ScriptPlayer.restart_block.Goals as goal

pub returns-in-Some : goal.returns-in-Some
returns-in-Some c =
    subst (λ (t : Thread). c.answer.new.self ≡ at_block t (depth_of t)) c.self.view_is
    (c.answer.ensures ∙ entered_again c.self.inside.blocks.deepest c.self.inside.blocks.blocks c.in-Some.begin.now c.rest-self-inside.result.now c.take_back.new.registers c.close.new.self
    c.in-Some.ensures.some c.rest-self-inside.ensures.value c.take_back.ensures c.close.ensures.value)
