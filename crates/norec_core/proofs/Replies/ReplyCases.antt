-- The three ways of a reply: in a transaction that is not irrevocable, as it becomes so, and once it is; and what holds after each.
use Rattle.std.proofs.Common.{◌≡◌, ◌≤◌, ◌⊎◌, inl, inr, [], Bool, true, false, Option, Some, IsSome, length, refl, sym, ap, subst, ◌∙◌, arith}
use Rattle.norec_core.proofs.Common.{Actions, Begin, Call, Code, Core, Ends, Enters, Mode, Replied, Replies, RepliesBy, RepliesHeld, RepliesTo, Reply, actions_after, blocks_after, in_transaction, irrevocable_room, is_abort, is_inside, length-map, made_irrevocable, total}
use Rattle.norec_core.proofs.Engines.Blocks.{inside_all}

module _ (mid new : Core) (call : Call) (r : Replied) where
  abbrev pub Ways : Type 0
  Ways = Replies mid call r new ⊎ Enters mid call r new ⊎ RepliesHeld mid call r new

  by_mode : (holds irrevocable : Bool) → RepliesBy holds irrevocable mid call r new → Ways
  by_mode false irrevocable g = inl g
  by_mode true false g = inr (inl g)
  by_mode true true g = inr (inr g)

  pub reply_cases : mid.doing ≡ Some call → Ends mid (Reply r) new → Ways
  reply_cases doing g =
      let To : Option Call → Type 0 = λ o. RepliesTo mid o r new in
      by_mode mid.holds mid.irrevocable (subst To doing g)

  -- the blocks and the actions are those that the reply leaves, but that an irrevocable transaction keeps no undo actions
  pub record IsReplied : Type 0 where
    pub deep : length (blocks_after mid call r) ≡ length new.blocks
    pub inside : in_transaction new ≡ is_inside (blocks_after mid call r)
    pub still : is_abort call ≡ false → in_transaction mid ≡ true → in_transaction new ≡ true
    pub ran : new.actions.ran ≡ (actions_after mid call r).ran
    pub most : total new.actions ≤ total (actions_after mid call r)

  no_undos : (a : Actions) → total (record a { undos = [] }) ≤ total a
  no_undos a = omega arith

  -- a transaction that becomes irrevocable stays open
  goes_inside : (c : Call) → IsSome (irrevocable_room mid c) → in_transaction mid ≡ true → is_inside (blocks_after mid c r) ≡ true
  goes_inside c g o = by_call c r g
    where
      by_call : (c : Call) (r : Replied) → IsSome (irrevocable_room mid c) → is_inside (blocks_after mid c r) ≡ true
      by_call (Begin props room) (Code n) g = refl
      by_call (Begin props room) r g = o
      by_call (Mode room) r g = o
      by_call c r g = absurd (cc)

  pub replied_so : Ways → IsReplied
  replied_so (inl g) = record {
    deep = sym (ap length g.blocks);
    inside = ap is_inside g.blocks;
    still = g.still;
    ran = ap (λ (a : Actions). a.ran) g.actions;
    most = (let same = ap total g.actions in omega arith);
  }
  replied_so (inr (inl g)) =
      let inside : in_transaction new ≡ is_inside (blocks_after mid call r) = ap in_transaction g.stays ∙ inside_all (blocks_after mid call r) in
      record {
        deep = sym (ap (λ (c : Core). length c.blocks) g.stays ∙ length-map (blocks_after mid call r) made_irrevocable);
        inside = inside;
        still = λ other o. inside ∙ goes_inside call g.goes o;
        ran = ap (λ (c : Core). c.actions.ran) g.stays;
        most = (let same = ap (λ (c : Core). total c.actions) g.stays in let fewer = no_undos (actions_after mid call r) in omega arith);
      }
  replied_so (inr (inr g)) = record {
    deep = sym (ap (λ (c : Core). length c.blocks) g.stays);
    inside = ap in_transaction g.stays;
    still = λ other o. g.still o;
    ran = ap (λ (c : Core). c.actions.ran) g.stays;
    most = (let same = ap (λ (c : Core). total c.actions) g.stays in omega arith);
  }
