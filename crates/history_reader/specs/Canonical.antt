-- The canonical history of those with one text: the one that the text is read as. Of a call no text tells how many more the block may make, of a fill's byte it tells the low 8 bits, of an action that had run in a block before it ran again not that it was an undo action, and of an attempt not when its begin was called, nor for how many more calls it had room.
use Rattle.std.specs.Prelude.{◌%◌, map}
use Rattle.itm_types.specs.declared.call.Call.{Call}
use Rattle.itm_types.specs.declared.call.Call.TheVariants as calls
use Rattle.itm_types.specs.declared.call.ActionKind.TheVariants.{Undo}
use Rattle.itm_types.specs.declared.call.Ran.{Ran}
use Rattle.tx_attempts.specs.declared.attempt.Again.{Again}
use Rattle.tx_attempts.specs.declared.attempt.Attempt.{Attempt}
use Rattle.tx_attempts.specs.declared.attempt.CallRecord.{CallRecord}
use Rattle.tx_history.specs.declared.history.History.{History}

abbrev pub canonical_call : Call → Call
canonical_call (calls.Begin props room) = calls.Begin props 0
canonical_call calls.Commit = calls.Commit
canonical_call (calls.Abort outer) = calls.Abort outer
canonical_call (calls.Mode room) = calls.Mode 0
canonical_call calls.InTransaction = calls.InTransaction
canonical_call (calls.Read hint width at) = calls.Read hint width at
canonical_call (calls.Write hint at value) = calls.Write hint at value
canonical_call (calls.Log width at) = calls.Log width at
canonical_call (calls.LogBytes at size) = calls.LogBytes at size
canonical_call (calls.Copy c) = calls.Copy c
canonical_call (calls.Fill hint to byte size) = calls.Fill hint to (byte % 256) size
canonical_call (calls.CommitAction action) = calls.CommitAction action
canonical_call (calls.UndoAction action) = calls.UndoAction action
canonical_call (calls.Load width at) = calls.Load width at
canonical_call (calls.Save at value) = calls.Save at value

abbrev pub canonical_entry : CallRecord → CallRecord
canonical_entry e = record { call = canonical_call e.call; reply = e.reply }

abbrev pub canonical_undone : Ran → Ran
canonical_undone r = record { kind = Undo; action = r.action }

abbrev pub canonical_again : Again → Again
canonical_again a = record a { undone = map canonical_undone a.undone }

abbrev pub canonical_attempt : Attempt → Attempt
canonical_attempt a = record a { began = 0; calls = record { list = map canonical_entry a.calls.list; room = 0 }; restarts = map canonical_again a.restarts }

abbrev pub canonical : History → History
canonical h = record h { attempts = map canonical_attempt h.attempts }
