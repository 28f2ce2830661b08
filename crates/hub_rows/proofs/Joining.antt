-- Proves what look-ups do, one after another.
use Rattle.std.proofs.Common.{◌≡◌, false, Result, Ok, Err, IfOk, OnOk, IsTrue, ap, subst, ◌∙◌, arith}
use Rattle.sqlite.specs.State.{State, HasCleanDisk}
use Rattle.sqlite.proofs.StateLemmas.{survives_then}
use Rattle.hub_store.specs.Clean.{are_clean}
use Rattle.hub_store.specs.declared.fault.StoreFault.{StoreFault}
use Rattle.hub_store.specs.declared.fault.StoreFault.TheVariants.{Unclean}
use Rattle.hub_tables.specs.Sets.{Rising}
use Rattle.hub_tables.specs.Tables.{Tables}
use Rattle.hub_schema.specs.Rows.{tables_in}
use Rattle.hub_schema.specs.State.{HasTables, LooksAmong, LooksFor, LooksIn, LooksUp}
use Rattle.hub_schema.proofs.Leaving.{spared, spares_then}
use Rattle.hub_schema.proofs.Same.{same_hub, same_tables}
use Rattle.hub_schema.proofs.Single.{held_rise, hub_has_tables}
use Rattle.sqlite.specs.Effect.{Database}
use Rattle.sqlite_schema.specs.declared.schema.Schema.{Schema}

-- equal errors have equal faults
same_fault : {Y : Type 0} (a b : StoreFault) → ◌≡◌ {A = Result Y StoreFault} (Err a) (Err b) → a ≡ b
same_fault a b e = cc

-- a look-up that failed returns nothing
module _ {schema : Schema} {Are : State → Type 0} {X Y : Type 0} (one : Tables → X → Type 0) (other : Tables → Y → Type 0)
    (spoilt worse : Tables → Type 0) (old new : State) where
  pub failed_for : ((t : Tables) → spoilt t → worse t) → (fault : StoreFault) → LooksAmong schema Are one spoilt old new (Err fault)
      → LooksAmong schema Are other worse old new (Err fault)
  failed_for so fault it = record {
    answers = λ clean holds. tt;
    same = λ clean. tt;
    stays = it.stays;
    leaves = λ clean. record { done = tt; fault = (it.leaves clean).fault };
    mode = it.mode;
    crash = it.crash;
    unclean = λ clean holds e.
        let was = it.unclean clean holds (ap Err (same_fault {Y = Y} fault Unclean e)) in
        (was.0, so (tables_in old.now.trees) was.1);
  }

  -- what follows from an answer
  pub found_on : (x : X) (y : Y) → ((t : Tables) → one t x → other t y) → LooksAmong schema Are one spoilt old new (Ok x)
      → LooksAmong schema Are other worse old new (Ok y)
  found_on x y follows it = record {
    answers = λ clean holds. follows (tables_in old.now.trees) (it.answers clean holds);
    same = it.same;
    stays = it.stays;
    leaves = λ clean. spared old new (Ok y) (it.leaves clean).done;
    mode = it.mode;
    crash = it.crash;
    unclean = λ clean holds e. absurd cc;
  }

  -- a fault found in an answer: `Unclean` follows from what the answer says of the tables
  pub fault_on : (x : X) (fault : StoreFault) → (fault ≡ Unclean → (t : Tables) → one t x → worse t)
      → LooksAmong schema Are one spoilt old new (Ok x) → LooksAmong schema Are other worse old new (Err fault)
  fault_on x fault follows it = record {
    answers = λ clean holds. tt;
    same = λ clean. tt;
    stays = it.stays;
    leaves = λ clean. spared old new (Err fault) (it.leaves clean).done;
    mode = it.mode;
    crash = it.crash;
    unclean = λ clean holds e. (
      (it.same clean).0,
      follows (same_fault {Y = Y} fault Unclean e) (tables_in old.now.trees) (it.answers clean holds),
    );
  }

pub looks_failed : {X Y : Type 0} (one : Tables → X) (other : Tables → Y) (old new : State) (fault : StoreFault)
    → LooksUp one old new (Err fault) → LooksUp other old new (Err fault)
looks_failed one other old new fault it =
    failed_for (λ t x. x ≡ one t) (λ t y. y ≡ other t) (λ t. are_clean t ≡ false) (λ t. are_clean t ≡ false) old new (λ t h. h) fault it

pub looks_on : {X Y : Type 0} (one : Tables → X) (other : Tables → Y) (old new : State) (x : X) (y : Y)
    → ((t : Tables) → x ≡ one t → y ≡ other t) → LooksUp one old new (Ok x) → LooksUp other old new (Ok y)
looks_on one other old new x y follows it =
    found_on (λ t x. x ≡ one t) (λ t y. y ≡ other t) (λ t. are_clean t ≡ false) (λ t. are_clean t ≡ false) old new x y follows it

-- an answer that shows that some row does not have the form of its kind
pub looks_spoilt : {X Y : Type 0} (one : Tables → X) (other : Tables → Y) (old new : State) (x : X)
    → ((t : Tables) → x ≡ one t → are_clean t ≡ false) → LooksUp one old new (Ok x) → LooksUp other old new (Err Unclean)
looks_spoilt one other old new x follows it =
    fault_on (λ t x. x ≡ one t) (λ t y. y ≡ other t) (λ t. are_clean t ≡ false) (λ t. are_clean t ≡ false) old new x Unclean
    (λ _ t. follows t) it

-- a second look-up, which depends on what the first returned
module _ {schema : Schema} {Are : State → Type 0} (still : (old new : State) → new.now ≡ old.now → Are old → Are new) {X Y : Type 0}
    (one : Tables → X → Type 0) (two all : Tables → Y → Type 0) (spoilt worse worst : Tables → Type 0) (old mid new : State) (x : X) where
  pub then_among : ((t : Tables) → one t x → (y : Y) → two t y → all t y)
      → ((t : Tables) → one t x → worse t → worst t)
      → LooksAmong schema Are one spoilt old mid (Ok x)
      → (result : Result Y StoreFault) → LooksAmong schema Are two worse mid new result
      → LooksAmong schema Are all worst old new result
  then_among follows so a result b =
      let before : HasCleanDisk new → HasCleanDisk mid = λ clean. omega (arith, b.crash.clean) in
      let same : HasCleanDisk new → mid.now ≡ old.now = λ clean. (a.same (before clean)).2 in
      let was_open : HasCleanDisk new → IsTrue old.is_open = λ clean. (a.same (before clean)).0 in
      let are : HasCleanDisk new → (IsTrue old.is_open → Are old) → IsTrue mid.is_open → Are mid =
      λ clean holds up. still old mid (same clean) (holds (was_open clean)) in
      let tables : HasCleanDisk new → tables_in mid.now.trees ≡ tables_in old.now.trees =
      λ clean. ap (λ (db : Database). tables_in db.trees) (same clean) in
      record {
        answers = λ clean holds. go result (tables clean) (follows (tables_in old.now.trees) (a.answers (before clean) holds))
            (b.answers clean (are clean holds));
        same = λ clean. both result (was_open clean) (same clean) (b.same clean);
        stays = λ clean idle has up.
            let it = b.stays clean (a.mode idle) (ap (λ (db : Database). db.schema) (same clean) ∙ has) up in
            (was_open clean, it.1 ∙ same clean);
        leaves = λ clean. spares_then old mid new result (a.leaves (before clean)).done (b.leaves clean);
        mode = λ idle. b.mode (a.mode idle);
        crash = survives_then old mid new _ _ _ (λ clean db h. h) (λ clean db h. h) a.crash b.crash;
        unclean = λ clean holds e. (
          was_open clean,
          so (tables_in old.now.trees) (a.answers (before clean) holds)
              (subst worse (tables clean) (b.unclean clean (are clean holds) e).1),
        );
      }
    where
      go : (r : Result Y StoreFault) → tables_in mid.now.trees ≡ tables_in old.now.trees
          → ((y : Y) → two (tables_in old.now.trees) y → all (tables_in old.now.trees) y)
          → IfOk r (two (tables_in mid.now.trees))
          → IfOk r (all (tables_in old.now.trees))
      go (Ok y) t f h = f y (subst (λ (u : Tables). two u y) t h)
      go (Err e) t f h = tt

      both : (r : Result Y StoreFault) → IsTrue old.is_open → mid.now ≡ old.now
          → OnOk r (IsTrue mid.is_open × IsTrue new.is_open × (new.now ≡ mid.now))
          → OnOk r (IsTrue old.is_open × IsTrue new.is_open × (new.now ≡ old.now))
      both (Ok y) o s h = (o, h.1, h.2 ∙ s)
      both (Err e) o s h = tt

pub found_then : {X Y : Type 0} (one : Tables → X → Type 0) (two all : Tables → Y → Type 0) (spoilt worse worst : Tables → Type 0)
    (old mid new : State) (x : X)
    → ((t : Tables) → one t x → (y : Y) → two t y → all t y)
    → ((t : Tables) → one t x → worse t → worst t)
    → LooksFor one spoilt old mid (Ok x) → (result : Result Y StoreFault) → LooksFor two worse mid new result
    → LooksFor all worst old new result
found_then = then_among same_hub

pub held_then : {X Y : Type 0} (one : Tables → X → Type 0) (two all : Tables → Y → Type 0) (spoilt worse worst : Tables → Type 0)
    (old mid new : State) (x : X)
    → ((t : Tables) → one t x → (y : Y) → two t y → all t y)
    → ((t : Tables) → one t x → worse t → worst t)
    → LooksIn one spoilt old mid (Ok x) → (result : Result Y StoreFault) → LooksIn two worse mid new result
    → LooksIn all worst old new result
held_then = then_among same_tables

pub looks_then : {X Y : Type 0} (one : Tables → X) (two : Tables → Y) (all : Tables → Y) (old mid new : State) (x : X)
    → ((t : Tables) → x ≡ one t → two t ≡ all t)
    → LooksUp one old mid (Ok x) → (result : Result Y StoreFault) → LooksUp two mid new result → LooksUp all old new result
looks_then one two all old mid new x follows a result b =
    found_then (λ t x. x ≡ one t) (λ t y. y ≡ two t) (λ t y. y ≡ all t) (λ t. are_clean t ≡ false) (λ t. are_clean t ≡ false)
    (λ t. are_clean t ≡ false) old mid new x (λ t is y h. h ∙ follows t is) (λ t is h. h) a result b

-- what is found in tables, whatever their number, is found in a hub's
pub of_hub : {X : Type 0} (says : Tables → X → Type 0) (spoilt : Tables → Type 0) (old new : State) (result : Result X StoreFault)
    → LooksIn says spoilt old new result → LooksFor says spoilt old new result
of_hub says spoilt old new result it = record {
  answers = λ clean holds. it.answers clean (λ up. hub_has_tables old (holds up));
  same = it.same;
  stays = it.stays;
  leaves = it.leaves;
  mode = it.mode;
  crash = it.crash;
  unclean = λ clean holds. it.unclean clean (λ up. hub_has_tables old (holds up));
}

-- rows rise by their keys
pub as_it_rises : {X : Type 0} (says : Tables → X → Type 0) (spoilt : Tables → Type 0) (old new : State) (result : Result X StoreFault)
    → LooksIn (λ t x. Rising t → says t x) spoilt old new result → LooksIn says spoilt old new result
as_it_rises {X} says spoilt old new result it = record {
  answers = λ clean holds. go result (it.same clean) (it.answers clean holds) holds;
  same = it.same;
  stays = it.stays;
  leaves = it.leaves;
  mode = it.mode;
  crash = it.crash;
  unclean = it.unclean;
}
  where
    go : (r : Result X StoreFault) → OnOk r (IsTrue old.is_open × IsTrue new.is_open × (new.now ≡ old.now))
        → IfOk r (λ x. Rising (tables_in old.now.trees) → says (tables_in old.now.trees) x) → (IsTrue old.is_open → HasTables old)
        → IfOk r (says (tables_in old.now.trees))
    go (Ok x) same h holds = h (held_rise old (holds same.0))
    go (Err e) same h holds = tt
