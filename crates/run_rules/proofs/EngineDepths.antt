-- How many blocks are open in an engine after a reply, by the depth that its player tells.
use Rattle.std.proofs.Common.{◌≡◌, ℕ, ◌<◌, ◌-◌, ◌&&◌, Bool, true, false, if◌then◌else◌, List, [], ◌∷◌, length, drop, refl, sym, ap, subst, ◌∙◌, arith, length-drop}
use Rattle.run_rules.proofs.Common.{Abort, Begin, Call, Code, Commit, Core, Done, Frame, IsDeep, Log, LogBytes, Old, Reply as Replied, blocks_after, closed, cond_both, depth_after, is_begin, is_code, is_inside, logged, opens}
use Rattle.run_rules.proofs.Players.{opens_at_begin}

length-closed : (bs : List Frame) → length (closed bs) ≡ length bs - 1
length-closed [] = refl
length-closed (b ∷ []) = omega arith
length-closed (b ∷ p ∷ bs) = omega arith

length-logged : (bs : List Frame) (olds : List Old) → length (logged bs olds) ≡ length bs
length-logged [] olds = refl
length-logged (b ∷ bs) olds = omega arith

length-kept : (irrevocable : Bool) (bs : List Frame) (olds : List Old) → length (if irrevocable then bs else logged bs olds) ≡ length bs
length-kept true bs olds = refl
length-kept false bs olds = length-logged bs olds

-- the player is as deep as the engine says
pub reply_fits : (c : Core) (call : Call) (r : Replied) → length (blocks_after c call r) ≡ depth_after (length c.blocks) call r
reply_fits c (Begin props room) (Code n) = omega arith
reply_fits c (Begin props room) r = refl
reply_fits c Commit Done = length-closed c.blocks
reply_fits c Commit r = refl
reply_fits c (Abort outer) (Code n) = cond_both outer [] (drop 1 c.blocks) (λ (bs : List Frame). length bs ≡ (if outer then 0 else length c.blocks - 1)) (λ e. ap (λ (o : Bool). if o then 0 else length c.blocks - 1) (sym e)) (λ e. length-drop 1 c.blocks ∙ ap (λ (o : Bool). if o then 0 else length c.blocks - 1) (sym e))
reply_fits c (Abort outer) r = refl
reply_fits c (Log width at) Done = length-kept c.irrevocable c.blocks _
reply_fits c (Log width at) r = refl
reply_fits c (LogBytes at size) Done = length-kept c.irrevocable c.blocks _
reply_fits c (LogBytes at size) r = refl
reply_fits c call r = refl

-- blocks are open where some are
pub deep_of : (blocks : List Frame) → IsDeep (is_inside blocks) (length blocks)
deep_of [] = refl
deep_of (b ∷ bs) = omega arith

-- a block that opens was begun by this call
pub was_open : (was now : Bool) (before deep : ℕ) (call : Call) (reply : Replied) → IsDeep was before → IsDeep now deep → (was ≡ false → is_begin call ≡ false) → depth_after before call reply ≡ deep → now ≡ true → was ≡ true
was_open true now before deep call reply b d none fits e = refl
was_open false now before deep call reply b d none fits e =
    let some : 0 < deep = subst (λ (o : Bool). IsDeep o deep) e d in
    let opened : opens 0 call reply ≡ true = opens_at_begin call reply (subst (λ (n : ℕ). 0 < depth_after n call reply) b (subst (λ (n : ℕ). 0 < n) (sym fits) some)) in
    let no : opens 0 call reply ≡ false = ap (λ (b : Bool). b && is_code reply) (none refl) in
    absurd (cc)
