-- A block that goes back to its begin: what the engine stands for then.
use Rattle.std.proofs.Common.{◌≡◌, ℕ, ◌<◌, ◌≤◌, Bool, true, false, List, [], ◌∷◌, length, take, Some, refl, sym, ap, ◌∙◌, if◌then◌else◌, arith}
use Rattle.std.proofs.lemmas.Bool.Decides.{nat_tests}
use Rattle.norec_core.proofs.Common.{Core, Frame, State, back, begun_again, blocks_over, bytes_of, irrevocable_from, is_some_row, is_within, kept_from, kept_of, length-take-le, log_of, may_restart, overlay, pushed, put_back, reads_of, renewed, stands_for}
use Rattle.itm_types.{specs.KeptBytes.nothing, specs.KeptBytes.restored, proofs.KeptBytes.nothing_same}

-- what blocks keep of an arena tells no more of it than how long it is
pub blocks_sized : (bs : List Frame) (a b m : List ℕ) → nothing a ≡ nothing b → blocks_over bs a m ≡ blocks_over bs b m
blocks_sized [] a b m same = refl
blocks_sized (f ∷ fs) a b m same =
    let rest = blocks_sized fs a b m same in
    λ i. record { props = f.props; saved = Some (record { memory = bytes_of (overlay m f.rows); wrote = is_some_row f.rows; commits = f.commits; undos = f.undos; kept = kept_from (same i) f.log }) } ∷ rest i

module _ (c : Core) (b p : Frame) (outer : List Frame) (clock : ℕ) (m : List ℕ) where
  abbrev e : Core
  e = record c { irrevocable = false; blocks = b ∷ p ∷ outer }

  -- the block rolled back and begun again
  pub stands_again : restored (kept_of c.arena b.log) c.arena ≡ put_back b.log c.arena → nothing (put_back b.log c.arena) ≡ nothing c.arena → b.props.goes_irrevocable ≡ false
      → b.commits ≤ length c.actions.commits → b.undos ≤ length c.actions.undos → stands_for (renewed e clock) m ≡ begun_again e.blocks (back (stands_for e m))
  stands_again puts size stays commits undos =
      let s : State = back (stands_for e m) in
      let less : b.commits ≡ length (take b.commits c.actions.commits) = sym (length-take-le b.commits c.actions.commits commits) in
      let fewer : b.undos ≡ length (take b.undos c.actions.undos) = sym (length-take-le b.undos c.actions.undos undos) in
      let rest = blocks_sized (p ∷ outer) (put_back b.log c.arena) c.arena m size in
      let arena : put_back b.log c.arena ≡ restored (kept_of c.arena b.log) c.arena = sym puts in
      (λ i. record s {
        arena = arena i;
        blocks = record { props = b.props; saved = Some (record { memory = s.memory; wrote = s.wrote; commits = less i; undos = fewer i; kept = nothing (arena i) }) } ∷ rest i;
      })
      ∙ sym (ap (λ (goes : Bool). if goes then irrevocable_from (pushed s b.props) else pushed s b.props) stays)

-- what is so where a block may go back to its begin
pub restart_parts : (c : Core) (row : ℕ) → may_restart c row ≡ true → (is_within c.blocks ≡ true) × (reads_of c.blocks ≤ row) × (c.restarted < c.restarts)
restart_parts c row may = (grind (arith, nat_tests), grind (arith, nat_tests), grind (arith, nat_tests))

-- whichever blocks are open, where one is within another
pub stands_renewed : (c : Core) (blocks : List Frame) (clock : ℕ) (m : List ℕ) → is_within blocks ≡ true
    → put_back (log_of blocks) c.arena ≡ restored (kept_of c.arena (log_of blocks)) c.arena → length (put_back (log_of blocks) c.arena) ≡ length c.arena
    → ((b : Frame) (bs : List Frame) → blocks ≡ b ∷ bs → (b.props.goes_irrevocable ≡ false) × (b.commits ≤ length c.actions.commits) × (b.undos ≤ length c.actions.undos))
    → stands_for (renewed (record c { irrevocable = false; blocks = blocks }) clock) m ≡ begun_again blocks (back (stands_for (record c { irrevocable = false; blocks = blocks }) m))
stands_renewed c (b ∷ p ∷ outer) clock m within puts size begun =
    let has = begun b (p ∷ outer) refl in
    stands_again c b p outer clock m (sym puts) (nothing_same (put_back b.log c.arena) c.arena size) has.0 has.1 has.2
stands_renewed c blocks clock m within puts size begun = absurd (cc)
