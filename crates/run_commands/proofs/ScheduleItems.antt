-- The items of a program: one schedule, and what stays over it.
use Rattle.std.proofs.Common.{inl, inr, ◌≡◌, ℕ, zero, suc, ◌+◌, ◌<◌, List, [], ◌∷◌, ◌++◌, length, map, replicate, Option, Result, refl, sym, subst, ◌∙◌, arith}
use Rattle.run_commands.proofs.Common.{All, All-map, AllByRecursion, End, Goes, Instruction, Item, ItemBegins, ItemLeads, ItemsBegin, ItemsLead, Out, SameOpening, Take, Takes, Thread, World, WorldFault, depth_of, each_out, ending_at, endings_of, get_or-range_with_len, length-range_with_len, map-range_with_len_more, opening, opening_both, opening_same, range_with_len, takes_led, thread_of, thread_rules}
use Rattle.run_commands.proofs.Items.{IsLed, led_append}

-- all of it is a schedule
item_led : (old new : World Thread) (item : Item) → ItemLeads thread_rules item old new → (schedule : List ℕ) × IsLed thread_rules old schedule new
item_led old new (Take thread count) l = (replicate count thread, l)
item_led old new (Out thread) (n, t, ended) = (replicate n thread, takes_led thread_rules thread n old new t)

pub items_led : (old new : World Thread) (items : List Item) → ItemsLead thread_rules items old new → (schedule : List ℕ) × IsLed thread_rules old schedule new
items_led old new [] e = ([], ([], e))
items_led old new (item ∷ items) (next, first, rest) =
    let one = item_led old next item first in
    let more = items_led next new items rest in
    (one.0 ++ more.0, led_append thread_rules old next new one.0 more.0 one.1 more.1)

-- so is what is begun of it
begun_led : (old new : World Thread) (item : Item) → ItemBegins thread_rules item old new → (schedule : List ℕ) × IsLed thread_rules old schedule new
begun_led old new (Take thread count) (n, few, results, l) = (replicate n thread, (results, l))
begun_led old new (Out thread) (n, t) = (replicate n thread, takes_led thread_rules thread n old new t)

pub items_begun_led : (old new : World Thread) (items : List Item) → ItemsBegin thread_rules items old new → (schedule : List ℕ) × IsLed thread_rules old schedule new
items_begun_led old new [] e = ([], ([], e))
items_begun_led old new (item ∷ items) (inl b) = begun_led old new item b
items_begun_led old new (item ∷ items) (inr (next, first, rest)) =
    let one = item_led old next item first in
    let more = items_begun_led next new items rest in
    (one.0 ++ more.0, led_append thread_rules old next new one.0 more.0 one.1 more.1)

-- each of these items is of a thread that there is
pub each_there : (n : ℕ) → All (λ (item : Item). thread_of item < n) (each_out n)
each_there n = All-map (λ (item : Item). thread_of item < n) Out (range_with_len 0 n) (λ k d h. omega (arith, length-range_with_len 0 n, get_or-range_with_len 0 n k d (omega (arith, h, length-range_with_len 0 n))))

-- ## What stays

-- it began as the other one did, and has as many actors
pub record Keeps (old new : World Thread) : Type 0 where
  pub opening : SameOpening old new
  pub actors : length new.actors ≡ length old.actors

keeps_same : (old new : World Thread) → new ≡ old → Keeps old new
keeps_same old new e = subst (Keeps old) (sym e) (record { opening = opening_same old; actors = refl })

keeps_then : (a b c : World Thread) → Keeps a b → Keeps b c → Keeps a c
keeps_then a b c k l = record { opening = opening_both a b c k.opening l.opening; actors = l.actors ∙ k.actors }

goes_keeps : (old new : World Thread) (thread : ℕ) (result : Result (Unit {0}) WorldFault) → Goes thread_rules thread old result new → Keeps old new
goes_keeps old new thread result g = record { opening = g.opening; actors = g.actors }

pub led_keeps : (old new : World Thread) (xs : List ℕ) → IsLed thread_rules old xs new → Keeps old new
led_keeps old new [] ([], e) = keeps_same old new e
led_keeps old new [] (r ∷ rs, e) = absurd e
led_keeps old new (x ∷ xs) ([], e) = absurd e
led_keeps old new (x ∷ xs) (r ∷ rs, (next, g, rest)) = keeps_then old next new (goes_keeps old next x r g) (led_keeps next new xs (rs, rest))

takes_keeps : (old new : World Thread) (thread n : ℕ) → Takes thread_rules thread n old new → Keeps old new
takes_keeps old new thread zero e = keeps_same old new e
takes_keeps old new thread (suc n) (last, r, rest, is, g) = keeps_then old last new (takes_keeps old last thread n rest) (goes_keeps last new thread r g)

item_keeps : (old new : World Thread) (item : Item) → ItemLeads thread_rules item old new → Keeps old new
item_keeps old new (Take thread count) l = led_keeps old new (replicate count thread) l
item_keeps old new (Out thread) (n, t, ended) = takes_keeps old new thread n t

pub items_keep : (old new : World Thread) (items : List Item) → ItemsLead thread_rules items old new → Keeps old new
items_keep old new [] e = keeps_same old new e
items_keep old new (item ∷ items) (next, first, rest) = keeps_then old next new (item_keeps old next item first) (items_keep next new items rest)

-- ## How its threads stand

pub endings_more : (w : World Thread) (i : ℕ) (endings : List (Option End)) (ending : Option End) → endings ≡ endings_of i w → ending ≡ ending_at w i → endings ++ ending ∷ [] ≡ endings_of (i + 1) w
endings_more w i endings ending e f = rw (e, f) (sym (map-range_with_len_more (ending_at w) 0 i i (omega arith)))

-- ## Its players

-- no block of theirs is open
pub outside : (deepest : ℕ) (threads : List (List Instruction)) → AllByRecursion (λ (t : Thread). depth_of t ≡ 0) (map (opening deepest) threads)
outside deepest [] = tt
outside deepest (code ∷ threads) = (refl, outside deepest threads)
