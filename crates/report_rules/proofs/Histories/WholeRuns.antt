-- A whole run, once all passes are joined and the words are closed.
use Rattle.std.proofs.Common.{inl, inr, ◌≡◌, ℕ, zero, suc, ◌*◌, ◌<◌, ◌≤◌, nat_lt, All, List, [], ◌++◌, get_or, length, Some, slice_get, sym, ap, subst, ◌∙◌, arith, lt-ltb, le-ltb}
use Rattle.report_rules.proofs.Common.{AreDisturbed, AreFew, AreLeft, AreOutrun, Attempt, Done, End, Gathers, Gating, Instruction, IsAlone, IsCourse, IsLegal, IsPlaced, Listing, Ran, Report, View, WasRun, Words, after, attempts_in, by_number, bytes_at, bytes_of, cases_lt, code_of, count_at, count_committed, count_holding, depth_of, ends_in, memory_after, memory_at, of_thread, one_where, opening_of, outrun_later, positions, thread_rules, threads_of, times, version_of}
use Rattle.shared_words.{specs.Views.opening, specs.Good.EndsWith, proofs.PositionTotals.count_is}
use Rattle.std.{proofs.Math.Seq.take-length, proofs.lemmas.Option.get_or_from_slice_get}
use Rattle.report_rules.proofs.Histories.CommitPositions.{below_limit, committed_count, count_times, memory_is}
use Rattle.report_rules.proofs.Passes.Courses.{course_still}
use Rattle.report_rules.proofs.Histories.LegalRuns.{all_free, all_placed}
use Rattle.report_rules.proofs.Histories.ThreadAttempts.{all_disturbed, all_few, all_left, all_outrun, all_own, all_stand, ends_count}

module _ (words : Words) (p : Listing) (gate : Gating) (r : Report) (start now : View) (all : List Done) (opens : start ≡ opening start.base) (from : bytes_of start.base ≡ r.history.memory) (begun : r.history.memory ≡ opening_of p) (gathered : Gathers words start p gate now all) (closed : EndsWith now r.history.clock r.history.bytes) (attempts : r.history.attempts ≡ attempts_in all) (ends_are : r.ends.items ≡ ends_in all) (version : r.history.version ≡ version_of p) (allows : depth_of (version_of p) ≡ p.limits.depth) where
  abbrev rows : List Attempt
  rows = r.history.attempts

  abbrev n : ℕ
  n = length now.seen

  mine_is : now.mine ≡ positions rows
  mine_is = gathered.joins.mine ∙ (ap (λ (l : List ℕ). l ++ positions (attempts_in all)) (ap (λ (v : View). v.mine) opens) ∙ ap positions (sym attempts))

  once : (k : ℕ) → k < n → count_at k rows ≡ 1
  once k l = count_times k rows ∙ (ap (times k) (sym mine_is) ∙ closed.mine k l)

  no_other : (k : ℕ) → n ≤ k → count_at k rows ≡ 0
  no_other k l = count_times k rows ∙ (ap (times k) (sym mine_is) ∙ closed.no_other k l)

  commits_are : count_committed rows ≡ n
  commits_are = committed_count rows ∙ count_is n (positions rows) (λ k l. ap (times k) (sym mine_is) ∙ closed.mine k l) (λ k l. ap (times k) (sym mine_is) ∙ closed.no_other k l)

  counted : (k : ℕ) → count_at k rows ≡ one_where (nat_lt k (count_committed rows))
  counted k = (elim (cases_lt k n) [
    | inl l ↦ once k l ∙ sym (ap one_where (lt-ltb k n l))
    | inr l ↦ no_other k l ∙ sym (ap one_where (le-ltb k n l))
  ]) ∙ ap (λ (m : ℕ). one_where (nat_lt k m)) (sym commits_are)

  deepest_is : depth_of r.history.version ≡ p.limits.depth
  deepest_is = ap depth_of version ∙ allows

  memory_same : (k : ℕ) → k ≤ n → memory_at r.history k ≡ bytes_at now k
  memory_same k few = ap (λ (deepest : ℕ). memory_after deepest r.history.memory rows k) deepest_is ∙ memory_is p.limits.depth now r.history.memory rows (sym from ∙ sym (ap bytes_of gathered.joins.base)) (subst (AreLeft p.limits.depth now) (sym attempts) (all_left words p gate now 0 all gathered.joins.workers)) once k few

  bytes_are : r.history.bytes ≡ memory_at r.history (count_committed rows)
  bytes_are =
      let last : bytes_at now n ≡ bytes_of (after now.base now.seen) = ap (λ (h : List (List (ℕ × ℕ))). bytes_of (after now.base h)) (take-length now.seen) in
      closed.bytes_are ∙ (sym last ∙ (sym (memory_same n (omega arith)) ∙ ap (memory_at r.history) (sym commits_are)))

  thread_course : (number : ℕ) (code : List Instruction) (end : End) → slice_get (threads_of p) number ≡ Some code → slice_get r.ends.items number ≡ Some end → IsCourse p (count_committed rows) (memory_at r.history) number code end (of_thread number rows)
  thread_course number code end code_is end_is =
      let d = all_own words p gate now number all gathered.joins.workers end (subst (λ (l : List End). slice_get l number ≡ Some end) ends_are end_is) in
      let its_code : code_of p number ≡ code = get_or_from_slice_get (threads_of p) number code [] code_is in
      let its_rows : d.0.attempts ≡ of_thread number rows = sym d.3 ∙ ap (of_thread number) (sym attempts) in
      let course : IsCourse p (count_committed rows) (memory_at r.history) number (code_of p number) d.0.end d.0.attempts =
      course_still p n (count_committed rows) (bytes_at now) (memory_at r.history) (let e = commits_are in omega arith) memory_same number (code_of p number) d.0.end d.0.attempts d.1.course in
      subst (λ (q : List Instruction × End × List Attempt). IsCourse p (count_committed rows) (memory_at r.history) number q.0 q.1 q.2) (λ i. (its_code i, d.2 i, its_rows i)) course

  thread_row : (number : ℕ) (end : End) → slice_get r.ends.items number ≡ Some end → WasRun words p now gate number end (of_thread number rows)
  thread_row number end end_is =
      let d = all_own words p gate now number all gathered.joins.workers end (subst (λ (l : List End). slice_get l number ≡ Some end) ends_are end_is) in
      let its_rows : d.0.attempts ≡ of_thread number rows = sym d.3 ∙ ap (of_thread number) (sym attempts) in
      subst (λ (q : End × List Attempt). WasRun words p now gate number q.0 q.1) (λ i. (d.2 i, its_rows i)) d.1.row

  -- the last position is below the limit
  few : count_committed rows ≤ p.limits.max_commits
  few = (let most = up_to n (omega arith) in let same = commits_are in omega arith)
    where
      below : AreFew p.limits.max_commits rows
      below = subst (AreFew p.limits.max_commits) (sym attempts) (all_few words p gate now 0 all gathered.joins.workers)

      up_to : (m : ℕ) → m ≤ n → m ≤ p.limits.max_commits
      up_to zero l = omega arith
      up_to (suc k) l = (let it = below_limit p.limits.max_commits k rows below (let one = once k (omega arith) in omega arith) in omega arith)

  placed : All (IsPlaced thread_rules p.limits.depth n (bytes_at now)) rows
  placed = subst (All (IsPlaced thread_rules p.limits.depth n (bytes_at now))) (sym attempts) (all_placed words p gate now 0 all gathered.joins.workers)

  clock_is : r.history.clock ≡ 2 * count_committed rows
  clock_is = closed.clock_is ∙ ap (λ (m : ℕ). 2 * m) (sym commits_are)

  outrun : AreOutrun r.history.clock rows
  outrun = outrun_later now.high r.history.clock closed.high rows (subst (AreOutrun now.high) (sym attempts) (all_outrun words p gate now 0 all gathered.joins.workers))

  disturbed : AreDisturbed rows
  disturbed = subst AreDisturbed (sym attempts) (all_disturbed words p gate now 0 all gathered.joins.workers)

  legal : IsLegal r.history
  legal = record {
    positions = counted;
    others = λ k d l. subst (λ (m : ℕ). (get_or rows k d).at ≤ m) (sym commits_are) (placed k d l).1;
    alone = λ k d l. subst (λ (deepest : ℕ). IsAlone deepest (memory_at r.history (get_or rows k d).at) (get_or rows k d)) (sym deepest_is)
        (subst (λ (m : List ℕ). IsAlone p.limits.depth m (get_or rows k d)) (sym (memory_same (get_or rows k d).at (placed k d l).1)) (placed k d l).0);
    final = inl (record {
      clock = clock_is;
      bytes = bytes_are;
      holding = ap (count_holding r.history) attempts ∙ all_free words p gate r.history now memory_same deepest_is 0 all gathered.joins.workers;
    });
  }

  pub ran : Ran gate p r
  ran = record {
    version = version;
    memory = begun;
    count = ap length ends_are ∙ (ends_count all ∙ gathered.count);
    threads = thread_course;
    words = words;
    view = now;
    closed = closed;
    base = ap bytes_of gathered.joins.base ∙ from;
    seen = λ k few. sym (memory_same k (let e = commits_are in omega arith));
    mine = mine_is;
    rows = thread_row;
    by_thread = subst (λ (q : List Attempt × ℕ). q.0 ≡ by_number 0 q.1 q.0) (λ i. (sym attempts i, gathered.count i)) (all_stand words p gate now all gathered.joins.workers);
    counted = counted;
    few = few;
    clock = clock_is;
    outrun = outrun;
    disturbed = disturbed;
    bytes = bytes_are;
    legal = legal;
  }
