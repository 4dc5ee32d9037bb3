use Rattle.std.proofs.Common.{◌≡◌, ◌+◌, ◌++◌, [], ◌∷◌, ℕ, true, false, List, Option, None, Some, get_or, ap, sym, ◌∙◌, arith, subst, Vec, Global, vec_capacity}
use Rattle.history_checker.proofs.Common.{AreLinks, Attempt, is_committed, set}
use Rattle.history_checker.proofs.Steps.Tables.{links_same, links_next, none_beyond, seen_within}
use Rattle.history_checker.proofs.tables.link.Goals as goal
use Rattle.history_checker.proofs.tables.link.Goals.{then-is_committed, else-is_committed}

pub exchange-requires : goal.exchange-requires
exchange-requires c =
    let ts = c.args.attempts.now in
    let a = c.index-attempts-i.result in
    let off = none_beyond c.args.count 0 ts c.loop-i.i a c.requires.seen c.loop-i-test.true in
    let within = seen_within c.args.count (get_or ts c.loop-i.i a) (ap (λ (x : Attempt). is_committed x.outcome) (sym c.index-attempts-i.is) ∙ (sym c.is_committed.ensures ∙ c.if-is_committed.false)) off in
    let at : a.at ≡ (get_or ts c.loop-i.i a).at = ap (λ (x : Attempt). x.at) c.index-attempts-i.is in
    omega (arith, within, at, c.loop-i.invariant.links.size)

pub loop-i-preserved : goal.loop-i-preserved
loop-i-preserved c =
    let ts = c.args.attempts.now in
    let i = c.loop-i.i in
    let a = c.index-attempts-i.result in
    let n = c.args.count in
    let newest = c.loop-i.newest.items in
    let older = c.loop-i.older.items in
    elim c.if-is_committed.branch [
      | then-is_committed w ↦
          let there : is_committed (get_or ts i a).outcome ≡ true = ap (λ (x : Attempt). is_committed x.outcome) (sym c.index-attempts-i.is) ∙ (sym c.is_committed.ensures ∙ w.if-is_committed.true) in
          let items : c.if-is_committed.older.items ≡ older ++ None ∷ [] = ap (λ (v : Vec (Option ℕ) Global). v.items) w.older-is ∙ w.push_reserved.ensures.items in
          let room : vec_capacity c.if-is_committed.older ≡ vec_capacity c.loop-i.older = ap (λ (v : Vec (Option ℕ) Global). vec_capacity v) w.older-is ∙ w.push_reserved.ensures.capacity in
          record {
            room = omega (arith, room, c.loop-i.invariant.room);
            links = subst (λ (v : Vec (Option ℕ) Global). AreLinks n ts (i + 1) v.items c.if-is_committed.older.items) (sym w.newest-is)
                (subst (AreLinks n ts (i + 1) newest) (sym items) (links_same n ts i a newest older c.loop-i-test.true there c.loop-i.invariant.links));
          }
      | else-is_committed w ↦
          let there : is_committed (get_or ts i a).outcome ≡ false = ap (λ (x : Attempt). is_committed x.outcome) (sym c.index-attempts-i.is) ∙ (sym c.is_committed.ensures ∙ w.if-is_committed.false) in
          let within = seen_within n (get_or ts i a) there (none_beyond n 0 ts i a c.requires.seen c.loop-i-test.true) in
          let items : c.if-is_committed.older.items ≡ older ++ get_or newest (get_or ts i a).at None ∷ [] =
          ap (λ (v : Vec (Option ℕ) Global). v.items) w.older-is ∙ (w.push_reserved-else-is_committed.ensures.items ∙ ap (λ (o : Option ℕ). older ++ o ∷ []) (w.exchange.ensures.old ∙ ap (λ (x : Attempt). get_or newest x.at None) c.index-attempts-i.is)) in
          let news : c.if-is_committed.newest.items ≡ set newest (get_or ts i a).at (Some i) =
          ap (λ (v : Vec (Option ℕ) Global). v.items) w.newest-is ∙ (w.exchange.ensures.new ∙ ap (λ (x : Attempt). set newest x.at (Some i)) c.index-attempts-i.is) in
          let room : vec_capacity c.if-is_committed.older ≡ vec_capacity c.loop-i.older = ap (λ (v : Vec (Option ℕ) Global). vec_capacity v) w.older-is ∙ w.push_reserved-else-is_committed.ensures.capacity in
          record {
            room = omega (arith, room, c.loop-i.invariant.room);
            links = subst (λ (xs : List (Option ℕ)). AreLinks n ts (i + 1) xs c.if-is_committed.older.items) (sym news)
                (subst (AreLinks n ts (i + 1) (set newest (get_or ts i a).at (Some i))) (sym items) (links_next n ts i a newest older c.loop-i-test.true there within c.loop-i.invariant.links));
          }
    ]
