-- What a player is after a reply.
use Rattle.std.proofs.Common.{◌&&◌, ◌≡◌, ◌==◌, ℕ, suc, ◌+◌, ◌*◌, ◌<◌, ◌≤◌, Bool, true, false, Option, Some, refl, ap, subst, ◌∙◌, sym, arith, if◌then◌else◌, nat_lt}
use Rattle.run_rules.proofs.Common.{Call, Code, Done, HasBlocks, IsBlock, IsDeep, IsNested, Obeys, Reply as Replied, Rules, abort_of, depth_after, depth_by, is_begin, is_code, is_commit, le-ltb, ltb-false, ltb-true, mul-le-mul_right, ne_eqb, opens, whole}

-- ## Numbers

pub rank_less : (x x' k c c' : ℕ) → x' < x → c' ≤ k → x' * (k + 1) + c' < x * (k + 1) + c
rank_less x x' k c c' less within = let up : x' + 1 ≤ x = omega arith in let m : (x' + 1) * (k + 1) ≤ x * (k + 1) = mul-le-mul_right (k + 1) up in omega arith

pub rank_same : (x x' k c c' : ℕ) → x' ≤ x → c' < c → x' * (k + 1) + c' < x * (k + 1) + c
rank_same x x' k c c' below less = let m : x' * (k + 1) ≤ x * (k + 1) = mul-le-mul_right (k + 1) below in omega arith

pub rank_most : (x x' k c c' : ℕ) → x' ≤ x → c' ≤ c → x' * (k + 1) + c' ≤ x * (k + 1) + c
rank_most x x' k c c' below few = let m : x' * (k + 1) ≤ x * (k + 1) = mul-le-mul_right (k + 1) below in omega arith

-- ## The depth

-- a reply after which more blocks are open is that to a begin, which was accepted
pub record IsOpened (depth : ℕ) (c : Call) (r : Replied) : Type 0 where
  pub now : depth_after depth c r ≡ suc depth
  pub entered : depth_after depth c (Code 5) ≡ suc depth
  pub begins : is_begin c ≡ true
  pub code : is_code r ≡ true

opened_by : (begins commits : Bool) (abort : Option Bool) (depth : ℕ) (r : Replied) → depth < depth_by begins commits abort depth r → (depth_by begins commits abort depth r ≡ suc depth) × (depth_by begins commits abort depth (Code 5) ≡ suc depth) × (begins ≡ true) × (is_code r ≡ true)
opened_by true commits abort depth (Code n) l = (refl, refl, refl, refl)
opened_by false true abort depth Done l = absurd (omega arith)
opened_by false false (Some true) depth (Code n) l = absurd (omega arith)
opened_by false false (Some false) depth (Code n) l = absurd (omega arith)
opened_by begins commits abort depth r l = absurd (omega arith)

pub is_opened : (depth : ℕ) (c : Call) (r : Replied) → depth < depth_after depth c r → IsOpened depth c r
is_opened depth c r l = (let f = opened_by (is_begin c) (is_commit c) (abort_of c) depth r l in record { now = f.0; entered = f.1; begins = f.2; code = f.3 })

-- the accepted begin of an outermost block
pub opens_at_begin : (c : Call) (r : Replied) → 0 < depth_after 0 c r → opens 0 c r ≡ true
opens_at_begin c r l = (let f = is_opened 0 c r l in (λ i. f.begins i && f.code i))

module _ {P : Type 0} (rules : Rules P) where
  pub nested_outside : (p : P) → rules.depth p ≡ 0 → IsNested rules false p
  nested_outside p none = record { deep = none; begun = λ o. absurd (cc); less = λ o. absurd (cc); blocks = λ d some within. absurd (omega arith) }

  -- back in its innermost block it is nested as it was
  pub nested_again : (p : P) → IsNested rules true p → IsNested rules true (rules.at_block p (rules.depth p))
  nested_again p n =
      let b = n.blocks (rules.depth p) n.deep (omega arith) in
      let q : P = rules.at_block p (rules.depth p) in
      let same : rules.calls_left (rules.restarted q) ≡ rules.calls_left (rules.restarted p) = ap rules.calls_left b.same in
      record {
        deep = omega (arith, b.depth, n.deep);
        begun = λ o. ap rules.depth b.same ∙ n.begun o;
        less = λ o. omega (arith, same, b.less);
        blocks = λ d some within. (let few : d ≤ rules.depth p = omega (arith, within, b.depth) in
            let k = n.blocks d some few in
            subst (IsBlock rules d q) (sym (b.around d some few))
            (record {
              depth = k.depth;
              same = k.same ∙ sym b.same;
              less = omega (arith, k.less, same);
              around = λ e u v. k.around e u v ∙ sym (b.around e u (omega arith));
            }));
      }

module _ {P : Type 0} (rules : Rules P) (laws : Obeys rules) where
  -- what a player is after a reply, by whether blocks were open and whether some are now
  pub record Played (was now : Bool) (p q : P) : Type 0 where
    pub nested : IsNested rules now q
    pub whole_falls : whole rules now q ≤ whole rules was p
    pub less : rules.calls_left q < rules.calls_left p

  module _ (p : P) (c : Call) (r : Replied) (asks : rules.next_call p ≡ Some c) where
    -- it goes back to the same begin
    goes_back : 0 < rules.depth p → 0 < depth_after (rules.depth p) c r → rules.restarted (rules.answered p r) ≡ rules.restarted p
    goes_back d l = laws.restarts p c r asks l ∙ ap (λ (b : Bool). if b then p else rules.restarted p) (ap (λ (b : Bool). b && (is_begin c && is_code r)) (ne_eqb (rules.depth p) 0 (λ e. absurd (omega arith))))

    -- or to this one
    begins_here : rules.depth p ≡ 0 → 0 < depth_after (rules.depth p) c r → rules.restarted (rules.answered p r) ≡ p
    begins_here d l =
        laws.restarts p c r asks l
        ∙ ap (λ (b : Bool). if b then p else rules.restarted p) (ap (λ (n : ℕ). opens n c r) d ∙ opens_at_begin c r (subst (λ (n : ℕ). 0 < depth_after n c r) d l))

    -- it knows where each open block had just begun
    blocks_kept : HasBlocks rules p → rules.calls_left p ≤ rules.calls_left (rules.restarted (rules.answered p r)) → HasBlocks rules (rules.answered p r)
    blocks_kept has near d some within = by_depth (nat_lt (rules.depth p) d) refl
      where
        q : P
        q = rules.answered p r

        few : d ≤ depth_after (rules.depth p) c r
        few = subst (λ (n : ℕ). d ≤ n) (laws.nests p c r asks) within

        open_now : 0 < depth_after (rules.depth p) c r
        open_now = omega (arith, some, few)

        by_depth : (b : Bool) → nat_lt (rules.depth p) d ≡ b → IsBlock rules d q (rules.at_block q d)
        by_depth false e =
            let far = ltb-false (rules.depth p) d e in
            let there = has d some far in
            let back : rules.restarted q ≡ rules.restarted p = goes_back (omega (arith, some, far)) open_now in
            subst (IsBlock rules d q) (sym (laws.begins p c r asks d some few ∙ ap (λ (b : Bool). if b then rules.answered p (Code 5) else rules.at_block p d) e))
            (record {
              depth = there.depth;
              same = there.same ∙ sym back;
              less = omega (arith, there.less, ap rules.calls_left back);
              around = λ k v w. there.around k v w ∙ sym (laws.begins p c r asks k v (omega (arith, w, few)) ∙ ap (λ (b : Bool). if b then rules.answered p (Code 5) else rules.at_block p k) (le-ltb (rules.depth p) k (omega (arith, w, far))));
            })
        by_depth true e =
            let far = ltb-true (rules.depth p) d e in
            let f = is_opened (rules.depth p) c r (omega (arith, far, few)) in
            let o : P = rules.answered p (Code 5) in
            let now = f.now in
            let entered = f.entered in
            let fewer = laws.nearer p c (Code 5) asks in
            let back : rules.restarted o ≡ rules.restarted q = laws.restarts p c (Code 5) asks (omega (arith, entered))
            ∙ (ap (λ (b : Bool). if (rules.depth p == 0) && (is_begin c && b) then p else rules.restarted p) (sym f.code) ∙ sym (laws.restarts p c r asks open_now)) in
            subst (IsBlock rules d q) (sym (laws.begins p c r asks d some few ∙ ap (λ (b : Bool). if b then o else rules.at_block p d) e))
            (record {
              depth = laws.nests p c (Code 5) asks ∙ (entered ∙ (let n : suc (rules.depth p) ≡ d = omega (arith, far, few, now) in n));
              same = back;
              less = omega (arith, fewer, near);
              around = λ k v w. laws.begins p c (Code 5) asks k v (omega (arith, w, few, now, entered)) ∙ sym (laws.begins p c r asks k v (omega (arith, w, few)));
            })

    -- where it goes back to once a block is open, which is where it did or this begin
    open_again : (was : Bool) → IsNested rules was p → 0 < depth_after (rules.depth p) c r → (rules.calls_left (rules.restarted (rules.answered p r)) ≡ whole rules was p) × (rules.depth (rules.restarted (rules.answered p r)) ≡ 0)
    open_again true n deep = (let back = goes_back n.deep deep in (ap rules.calls_left back, ap rules.depth back ∙ n.begun refl))
    open_again false n deep = (let back = begins_here n.deep deep in (ap rules.calls_left back, ap rules.depth back ∙ n.deep))

    -- no more calls are left than where the block that is under way was begun, or is
    whole_most : (was : Bool) → IsNested rules was p → rules.calls_left p ≤ whole rules was p
    whole_most true n = omega (arith, n.less refl)
    whole_most false n = omega arith

    pub plays : (was now : Bool) → IsNested rules was p → IsDeep now (depth_after (rules.depth p) c r) → Played was now p (rules.answered p r)
    plays was true n deep =
        let again = open_again was n deep in
        let most = whole_most was n in
        record {
          nested = record { deep = subst (IsDeep true) (sym (laws.nests p c r asks)) deep; begun = λ o. again.1; less = λ o. omega (arith, again.0, most, laws.nearer p c r asks); blocks = blocks_kept n.blocks (omega (arith, again.0, most)) };
          whole_falls = omega (arith, again.0);
          less = laws.nearer p c r asks;
        }
    plays was false n deep = record {
      nested = nested_outside rules (rules.answered p r) (laws.nests p c r asks ∙ deep);
      whole_falls = omega (arith, whole_most was n, laws.nearer p c r asks);
      less = laws.nearer p c r asks;
    }
