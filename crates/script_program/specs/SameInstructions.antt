-- Instructions that are equal are the same.
use Rattle.std.specs.Prelude.{◌≡◌, true, refl}
use Rattle.std.proofs.Common.{sym, eqb-true}
use Rattle.std.proofs.lemmas.Bool.{and_parts}
use Rattle.std.specs.Cmp.{booleans_Decides}
use mathlib.Core.Bool.{true≢false}
use Rattle.script_program.specs.declared.instruction.Instruction.{Instruction}
use Rattle.script_program.specs.declared.instruction.Instruction.TheVariants.{Set, Bytes, Move, Compute, IfNotZero, Else, EndIf, Load, Save, Begin, Commit, Abort, Mode, InTransaction, CommitAction, UndoAction, Read, Write, Log, LogBytes, Copy, Fill}
use Rattle.script_program.specs.contracts.instruction.InstructionPartialEq.TheImpl as equality
use Rattle.script_program.specs.contracts.equality.OperationExactEq.TheImpl.Laws.{exact-law as exact_operation}
use Rattle.script_program.specs.contracts.equality.ArenaWidthExactEq.TheImpl.Laws.{exact-law as exact_arena_width}
use Rattle.script_fields.specs.contracts.equality.RegisterExactEq.TheImpl.Laws.{exact-law as exact_register}
use Rattle.script_fields.specs.contracts.equality.LiteralExactEq.TheImpl.Laws.{exact-law as exact_literal}
use Rattle.script_fields.specs.contracts.equality.PlaceExactEq.TheImpl.Laws.{exact-law as exact_place}
use Rattle.itm_types.specs.contracts.equality.PropsExactEq.TheImpl.Laws.{exact-law as exact_props}
use Rattle.itm_types.specs.contracts.equality.WidthExactEq.TheImpl.Laws.{exact-law as exact_width}
use Rattle.itm_types.specs.contracts.equality.ReadHintExactEq.TheImpl.Laws.{exact-law as exact_read}
use Rattle.itm_types.specs.contracts.equality.WriteHintExactEq.TheImpl.Laws.{exact-law as exact_write}
use Rattle.itm_types.specs.contracts.equality.CopyPairExactEq.TheImpl.Laws.{exact-law as exact_pair}

pub same_instruction : (c d : Instruction) → (equality.ghosts).eq c d ≡ true → c ≡ d
same_instruction (Set r m) (Set s n) e = let a = and_parts _ _ e in λ i. Set (exact_register r s a.0 i) (eqb-true m n a.1 i)
same_instruction (Bytes r l) (Bytes s m) e = let a = and_parts _ _ e in λ i. Bytes (exact_register r s a.0 i) (exact_literal l m a.1 i)
same_instruction (Move r x) (Move s y) e = let a = and_parts _ _ e in λ i. Move (exact_register r s a.0 i) (exact_register x y a.1 i)
same_instruction (Compute o r x v) (Compute p s y w) e = let a = and_parts _ _ e in let b = and_parts _ _ a.1 in let c = and_parts _ _ b.1 in λ i. Compute (exact_operation o p a.0 i) (exact_register r s b.0 i) (exact_register x y c.0 i) (exact_register v w c.1 i)
same_instruction (IfNotZero r) (IfNotZero s) e = λ i. IfNotZero (exact_register r s e i)
same_instruction Else Else e = refl
same_instruction EndIf EndIf e = refl
same_instruction (Load w r m) (Load v s n) e = let a = and_parts _ _ e in let b = and_parts _ _ a.1 in λ i. Load (exact_arena_width w v a.0 i) (exact_register r s b.0 i) (exact_place m n b.1 i)
same_instruction (Save w m r) (Save v n s) e = let a = and_parts _ _ e in let b = and_parts _ _ a.1 in λ i. Save (exact_arena_width w v a.0 i) (exact_place m n b.0 i) (exact_register r s b.1 i)
same_instruction (Begin p r) (Begin q s) e = let a = and_parts _ _ e in λ i. Begin (exact_props p q a.0 i) (exact_register r s a.1 i)
same_instruction Commit Commit e = refl
same_instruction (Abort a) (Abort b) e = λ i. Abort ((booleans_Decides a b).0 e i)
same_instruction Mode Mode e = refl
same_instruction (InTransaction r) (InTransaction s) e = λ i. InTransaction (exact_register r s e i)
same_instruction (CommitAction f m) (CommitAction g n) e = let a = and_parts _ _ e in λ i. CommitAction (eqb-true f g a.0 i) (exact_place m n a.1 i)
same_instruction (UndoAction f m) (UndoAction g n) e = let a = and_parts _ _ e in λ i. UndoAction (eqb-true f g a.0 i) (exact_place m n a.1 i)
same_instruction (Read h w r m) (Read k v s n) e = let a = and_parts _ _ e in let b = and_parts _ _ a.1 in let c = and_parts _ _ b.1 in λ i. Read (exact_read h k a.0 i) (exact_width w v b.0 i) (exact_register r s c.0 i) (exact_place m n c.1 i)
same_instruction (Write h w m r) (Write k v n s) e = let a = and_parts _ _ e in let b = and_parts _ _ a.1 in let c = and_parts _ _ b.1 in λ i. Write (exact_write h k a.0 i) (exact_width w v b.0 i) (exact_place m n c.0 i) (exact_register r s c.1 i)
same_instruction (Log w m) (Log v n) e = let a = and_parts _ _ e in λ i. Log (exact_width w v a.0 i) (exact_place m n a.1 i)
same_instruction (LogBytes m s) (LogBytes n t) e = let a = and_parts _ _ e in λ i. LogBytes (exact_place m n a.0 i) (exact_place s t a.1 i)
same_instruction (Copy m p x y z) (Copy n q t u v) e = let a = and_parts _ _ e in let b = and_parts _ _ a.1 in let c = and_parts _ _ b.1 in let d = and_parts _ _ c.1 in λ i. Copy ((booleans_Decides m n).0 a.0 i) (exact_pair p q b.0 i) (exact_place x t c.0 i) (exact_place y u d.0 i) (exact_place z v d.1 i)
same_instruction (Fill h x y z) (Fill k t u v) e = let a = and_parts _ _ e in let b = and_parts _ _ a.1 in let c = and_parts _ _ b.1 in λ i. Fill (exact_write h k a.0 i) (exact_place x t b.0 i) (exact_place y u c.0 i) (exact_place z v c.1 i)
same_instruction c d e = absurd (true≢false (sym e))
