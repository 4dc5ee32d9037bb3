-- Calls that are equal are the same.
use Rattle.std.specs.Prelude.{◌≡◌, true, refl}
use Rattle.std.proofs.Common.{sym, eqb-true}
use Rattle.std.proofs.lemmas.Bool.{and_parts}
use Rattle.std.specs.Cmp.{booleans_Decides}
use mathlib.Core.Bool.{true≢false}
use Rattle.itm_types.specs.declared.call.Call.{Call}
use Rattle.itm_types.specs.declared.call.Call.TheVariants.{Begin, Commit, Abort, Mode, InTransaction, Read, Write, Log, LogBytes, Copy, Fill, CommitAction, UndoAction, Load, Save}
use Rattle.itm_types.specs.contracts.call.CallPartialEq.TheImpl as equality
use Rattle.itm_types.specs.contracts.equality.PropsExactEq.TheImpl.Laws.{exact-law as exact_props}
use Rattle.itm_types.specs.contracts.equality.WidthExactEq.TheImpl.Laws.{exact-law as exact_width}
use Rattle.itm_types.specs.contracts.equality.ReadHintExactEq.TheImpl.Laws.{exact-law as exact_read}
use Rattle.itm_types.specs.contracts.equality.WriteHintExactEq.TheImpl.Laws.{exact-law as exact_write}
use Rattle.itm_types.specs.contracts.equality.DatumExactEq.TheImpl.Laws.{exact-law as exact_datum}
use Rattle.itm_types.specs.contracts.equality.CopyingExactEq.TheImpl.Laws.{exact-law as exact_copy}
use Rattle.itm_types.specs.contracts.equality.ActionExactEq.TheImpl.Laws.{exact-law as exact_action}

pub same_call : (c d : Call) → (equality.ghosts).eq c d ≡ true → c ≡ d
same_call (Begin p r) (Begin q s) e = let a = and_parts _ _ e in λ i. Begin (exact_props p q a.0 i) (eqb-true r s a.1 i)
same_call Commit Commit e = refl
same_call (Abort a) (Abort b) e = λ i. Abort ((booleans_Decides a b).0 e i)
same_call (Mode r) (Mode s) e = λ i. Mode (eqb-true r s e i)
same_call InTransaction InTransaction e = refl
same_call (Read h w m) (Read k v n) e = let a = and_parts _ _ e in let b = and_parts _ _ a.1 in λ i. Read (exact_read h k a.0 i) (exact_width w v b.0 i) (eqb-true m n b.1 i)
same_call (Write h m v) (Write k n w) e = let a = and_parts _ _ e in let b = and_parts _ _ a.1 in λ i. Write (exact_write h k a.0 i) (eqb-true m n b.0 i) (exact_datum v w b.1 i)
same_call (Log w m) (Log v n) e = let a = and_parts _ _ e in λ i. Log (exact_width w v a.0 i) (eqb-true m n a.1 i)
same_call (LogBytes m s) (LogBytes n t) e = let a = and_parts _ _ e in λ i. LogBytes (eqb-true m n a.0 i) (eqb-true s t a.1 i)
same_call (Copy c) (Copy d) e = λ i. Copy (exact_copy c d e i)
same_call (Fill h m x s) (Fill k n y t) e = let a = and_parts _ _ e in let b = and_parts _ _ a.1 in let c = and_parts _ _ b.1 in λ i. Fill (exact_write h k a.0 i) (eqb-true m n b.0 i) (eqb-true x y c.0 i) (eqb-true s t c.1 i)
same_call (CommitAction x) (CommitAction y) e = λ i. CommitAction (exact_action x y e i)
same_call (UndoAction x) (UndoAction y) e = λ i. UndoAction (exact_action x y e i)
same_call (Load w m) (Load v n) e = let a = and_parts _ _ e in λ i. Load (exact_width w v a.0 i) (eqb-true m n a.1 i)
same_call (Save m v) (Save n w) e = let a = and_parts _ _ e in λ i. Save (eqb-true m n a.0 i) (exact_datum v w a.1 i)
same_call c d e = absurd (true≢false (sym e))
