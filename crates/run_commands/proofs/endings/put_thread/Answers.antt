use Rattle.std.proofs.Common.{append_assoc, append-nil}
use Rattle.run_commands.proofs.Common.{put_as, thread_line}
use Rattle.run_commands.proofs.endings.put_thread.Goals as goal

pub returns : goal.returns
unfolding thread_line
returns g c = put_as _ _ _ _ _ c.put_pieces.ensures (simp (append_assoc, append-nil))
