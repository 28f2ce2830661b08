use Rattle.std.proofs.Common.{◌≡◌, inl, inr, false, sym, subst, ◌∙◌, arith, true≢false}
use Rattle.sqlite.specs.Held.{state}
use Rattle.sqlite_trees.specs.View.{IsClean}
use Rattle.hub_sql.specs.Version.{AreShaped, tables_of}
use Rattle.hub_sql.proofs.Shapes.{open_if_whole, all_shaped}
use Rattle.hub_sql.proofs.Sparing.{spared_below, spared_again}
use Rattle.hub_sql.proofs.reopening.reopen.Goals as goal

pub returns-in-Ok-clause-shaped : goal.returns-in-Ok-clause-shaped
returns-in-Ok-clause-shaped g c clean =
    let store = c.into_store-store.result in
    let early : IsClean (g.S.Store.view store) = omega (arith, c.in-Ok.ensures.clean) in
    let whole : (g.S.Store.view store).is_broken ≡ false = sym (c.is_broken.ensures early) ∙ c.if-is_broken.false in
    let tables = c.has_tables.ensures.0 c.if-not-has_tables.false in
    subst (AreShaped c.args.version) (sym (c.in-Ok.ensures.trees clean))
    (all_shaped (g.S.Store.view store).shape (g.S.Store.view store).trees (tables_of c.args.version)
    (g.met.S.Store.ordered store whole) tables)

pub returns-in-Ok-clause-rows : goal.returns-in-Ok-clause-rows
returns-in-Ok-clause-rows g c clean =
    let store = c.into_store-store.result in
    let early : IsClean (g.S.Store.view store) = omega (arith, c.in-Ok.ensures.clean) in
    let whole : (g.S.Store.view store).is_broken ≡ false = sym (c.is_broken.ensures early) ∙ c.if-is_broken.false in
    c.in-Ok.ensures.trees clean ∙
    (c.into_store-store.ensures.undone.undone
    (open_if_whole (g.S.Store.view store) (g.met.S.Store.broken_if_shut store) whole)).0

pub returns-then-is_broken-clause-spared : goal.returns-then-is_broken-clause-spared
returns-then-is_broken-clause-spared g c =
    spared_below g.S.Store c.args.conn c.into_store-store.result c.into_store-store.ensures.undone
    c.into_store-store.ensures.quiet

pub returns-then-not-has_tables-clause-spared : goal.returns-then-not-has_tables-clause-spared
returns-then-not-has_tables-clause-spared g c =
    spared_below g.S.Store c.args.conn c.into_store-store.result c.into_store-store.ensures.undone
    c.into_store-store.ensures.quiet

pub returns-in-Err-clause-spared : goal.returns-in-Err-clause-spared
returns-in-Err-clause-spared g c =
    let store = c.into_store-store.result in
    spared_again g.S.Store (state g.S.Store c.args.conn) store c.in-Err.store
    (spared_below g.S.Store c.args.conn store c.into_store-store.ensures.undone c.into_store-store.ensures.quiet)
    c.in-Err.ensures.unharmed c.in-Err.ensures.rows
    (λ early. open_if_whole (g.S.Store.view store) (g.met.S.Store.broken_if_shut store)
    (sym (c.is_broken.ensures early) ∙ c.if-is_broken.false))

pub over-requires : goal.over-requires
over-requires g c early =
    let store = c.into_store-store.result in
    let whole : (g.S.Store.view store).is_broken ≡ false = sym (c.is_broken.ensures early) ∙ c.if-is_broken.false in
    let up = open_if_whole (g.S.Store.view store) (g.met.S.Store.broken_if_shut store) whole in
    let undone = c.into_store-store.ensures.undone in
    record {
      sound = whole;
      numbered = c.into_store-store.ensures.numbered early;
      clean = (undone.undone up).0 ∙ sym ((undone.kept early).committed up);
      unmarked = (undone.kept early).marks up;
    }

pub returns-in-Ok-clause-ready : goal.returns-in-Ok-clause-ready
returns-in-Ok-clause-ready g c clean =
    let it = c.in-Ok.ensures.opens clean in
    record { up = it.0.is_open; shown = it.0.clean; sound = (it.1 it.0.is_open).0 }

pub returns-then-is_broken-clause-shut : goal.returns-then-is_broken-clause-shut
returns-then-is_broken-clause-shut g c clean = inl (sym (c.is_broken.ensures clean) ∙ c.if-is_broken.true)

pub returns-then-not-has_tables-clause-shut : goal.returns-then-not-has_tables-clause-shut
returns-then-not-has_tables-clause-shut g c clean =
    inr (inl (λ tables. true≢false (sym (c.has_tables.ensures.1 tables) ∙ c.if-not-has_tables.true)))

pub returns-in-Err-clause-shut : goal.returns-in-Err-clause-shut
returns-in-Err-clause-shut g c clean =
    let store = c.into_store-store.result in
    let early : IsClean (g.S.Store.view store) = omega (arith, c.in-Err.ensures.unharmed.clean) in
    let whole : (g.S.Store.view store).is_broken ≡ false = sym (c.is_broken.ensures early) ∙ c.if-is_broken.false in
    inr (inr (
      store,
      record {
        error = c.in-Err.error;
        rows =
            (c.into_store-store.ensures.undone.undone
            (open_if_whole (g.S.Store.view store) (g.met.S.Store.broken_if_shut store) whole)).0;
        counted = c.into_store-store.ensures.quiet.counts;
        fails = c.in-Err.ensures.err clean;
        is = c.fault_by.ensures.exact;
      },
    ))
