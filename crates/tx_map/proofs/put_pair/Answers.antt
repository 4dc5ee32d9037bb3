use Rattle.std.proofs.Common.{ℕ, ap}
use Rattle.tx_map.proofs.Written.{not_full, pair_some, pair_written, put_some}
use Rattle.tx_map.proofs.put_pair.Goals as goal

pub returns-in_err-told-clause-some : goal.returns-in_err-told-clause-some
returns-in_err-told-clause-some c =
    let t = c.args.table.now.slots in
    let pair = c.pair_of-key.result in
    put_some t.first t.count c.args.number pair.0 pair.1 (ap (λ (x : ℕ × ℕ). x.0) c.pair_of-key.ensures) (ap (λ (x : ℕ × ℕ). x.1) c.pair_of-key.ensures) c.args.client.now.transaction c.put.new.client.transaction c.put.result c.put.ensures.left c.put.ensures.put

pub returns-in_err-found-clause-some : goal.returns-in_err-found-clause-some
returns-in_err-found-clause-some c =
    let t = c.args.table.now.slots in
    let pair = c.pair_of-key.result in
    pair_some t.first t.count c.args.number pair.0 pair.1 (ap (λ (x : ℕ × ℕ). x.0) c.pair_of-key.ensures) (ap (λ (x : ℕ × ℕ). x.1) c.pair_of-key.ensures) c.args.client.now.transaction c.put.new.client.transaction c.get.new.client.transaction c.put.result c.get.result c.put.ensures.left c.put.ensures.put c.get.ensures.left c.get.ensures.got

pub returns-then-ne-clause-some : goal.returns-then-ne-clause-some
returns-then-ne-clause-some c =
    let t = c.args.table.now.slots in
    let pair = c.pair_of-key.result in
    pair_some t.first t.count c.args.number pair.0 pair.1 (ap (λ (x : ℕ × ℕ). x.0) c.pair_of-key.ensures) (ap (λ (x : ℕ × ℕ). x.1) c.pair_of-key.ensures) c.args.client.now.transaction c.put.new.client.transaction c.get.new.client.transaction c.put.result c.get.result c.put.ensures.left c.put.ensures.put c.get.ensures.left c.get.ensures.got

pub returns-in-Full-clause-some : goal.returns-in-Full-clause-some
returns-in-Full-clause-some c =
    let t = c.args.table.now.slots in
    let pair = c.pair_of-key.result in
    pair_some t.first t.count c.args.number pair.0 pair.1 (ap (λ (x : ℕ × ℕ). x.0) c.pair_of-key.ensures) (ap (λ (x : ℕ × ℕ). x.1) c.pair_of-key.ensures) c.args.client.now.transaction c.put.new.client.transaction c.get.new.client.transaction c.put.result c.get.result c.put.ensures.left c.put.ensures.put c.get.ensures.left c.get.ensures.got

pub returns-in_default-clause-some : goal.returns-in_default-clause-some
returns-in_default-clause-some c =
    let t = c.args.table.now.slots in
    let pair = c.pair_of-key.result in
    pair_some t.first t.count c.args.number pair.0 pair.1 (ap (λ (x : ℕ × ℕ). x.0) c.pair_of-key.ensures) (ap (λ (x : ℕ × ℕ). x.1) c.pair_of-key.ensures) c.args.client.now.transaction c.put.new.client.transaction c.get.new.client.transaction c.put.result c.get.result c.put.ensures.left c.put.ensures.put c.get.ensures.left c.get.ensures.got

pub returns-in_default-clause-written : goal.returns-in_default-clause-written
returns-in_default-clause-written c =
    let t = c.args.table.now.slots in
    let pair = c.pair_of-key.result in
    pair_written t.first t.count c.args.number pair.0 pair.1 (ap (λ (x : ℕ × ℕ). x.0) c.pair_of-key.ensures) (ap (λ (x : ℕ × ℕ). x.1) c.pair_of-key.ensures) c.args.client.now.transaction c.put.new.client.transaction c.get.new.client.transaction c.put.result c.get.result c.put.ensures.left c.put.ensures.put c.get.ensures.left c.get.ensures.got
    c.in_ok-told.told c.in_ok-told.ensures.value (not_full c.in_ok-told.told.value c.in_default.not-Full)
