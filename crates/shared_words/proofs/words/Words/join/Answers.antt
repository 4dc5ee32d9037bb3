use Rattle.std.proofs.Common.{◌≡◌, ◌≤◌, ℕ, arith, sym, ap, ◌∙◌, subst}
use Rattle.shared_words.proofs.Common.{Held, Joined, StartsWith, View, both, cells_of, times, view_of}
use Rattle.shared_words.{proofs.PassViews.joined, proofs.ViewsFit.over_join, proofs.TableSteps.joins, proofs.TableSteps.allows_settle}
use Rattle.shared_words.proofs.words.Words.join.Goals as goal

pub join_seat-requires : goal.join_seat-requires
join_seat-requires g c =
    (c.requires.own.0.same, c.requires.own.1.same, c.args.other.slotless, c.args.self.now.clocked, joins _ _ _ _ (omega (arith, c.args.pass.now.counted)) c.requires.idle)

pub load-pass-requires : goal.load-pass-requires
load-pass-requires g c = (c.join_seat.ensures.0 ∙ c.requires.own.0.same, c.args.self.now.clocked, allows_settle _ _ _)

pub returns : goal.returns
returns g c =
    let v = view_of c.args.pass.now in
    let u = view_of c.args.other in
    let last = c.load-pass.ensures.2 in
    let me : c.join_seat.new.seat.me.0 ≡ both v u = ap (λ (m : Held). m.0) c.join_seat.ensures.2 in
    let now : c.load-pass.new.seat.me.0 ≡ both v u = ap (λ (m : Held). m.0) last.0 ∙ me in
    let one : StartsWith (both v u).seen (both v u).shorter = subst (λ (w : View). StartsWith w.seen w.shorter) me last.1 in
    let once : (p : ℕ) → times p (both v u).mine ≤ 1 = subst (λ (w : View). (p : ℕ) → times p w.mine ≤ 1) me last.2 in
    let j : Joined v u c.load-pass.new.seat.me.0 = subst (Joined v u) (sym now) (joined v u one once) in
    record {
      own = record { same = c.load-pass.ensures.0 ∙ (c.join_seat.ensures.0 ∙ c.requires.own.0.same); over = over_join (cells_of c.args.self.now) v u c.load-pass.new.seat.me.0 c.requires.own.0.over c.requires.own.1.over j };
      joined = j;
    }
