-- The register, from rows that were read one kind after another.
use Rattle.std.proofs.Common.{◌≡◌, Bool, false, Result, Ok, Err, List, Option, None, sym, subst, ◌∙◌}
use Rattle.std.specs.List.{list_all}
use Rattle.sqlite.specs.State.{State}
use Rattle.hub_parties.specs.Rows.{RegisterRows}
use Rattle.hub_rows.proofs.Joining.{found_on, fault_on, failed_for, found_then}
use Rattle.hub_schema.specs.State.{LooksFor}
use Rattle.hub_schema.proofs.Single.{hub_rises}
use Rattle.hub_sound.specs.Finding.{RowKey}
use Rattle.hub_sound.proofs.Deciding.{not_all}
use Rattle.hub_store.specs.declared.fault.StoreFault.{StoreFault}
use Rattle.hub_store.specs.declared.fault.StoreFault.TheVariants.{Memory, Unclean}
use Rattle.hub_tables.specs.Sets.{Rising}
use Rattle.hub_tables.specs.Tables.{Tables}
use Rattle.hub_pieces.specs.AllRows.{IsRead}
use Rattle.hub_pieces.specs.declared.all_rows.Read.{Read as Found}
use Rattle.hub_pieces.specs.declared.all_rows.Read.TheVariants as read
use Rattle.hub_pieces.proofs.Reading.{rows_are}

abbrev NoTables : Tables → Type 0
NoTables t = ⊥

-- a look-up that failed
pub not_read : {X Y : Type 0} (one : Tables → X → Type 0) (other : Tables → Y → Type 0) (old new : State) (fault : StoreFault)
    → LooksFor one NoTables old new (Err fault) → LooksFor other NoTables old new (Err fault)
not_read one other old new fault it = failed_for one other NoTables NoTables old new (λ t no. no) fault it

module _ {X : Type 0} (key_of : X → RowKey) (clean : X → Bool) (rows : Tables → List X) (says : Tables → Option RegisterRows → Type 0)
    (old mid : State) (found : Found X) (looks : LooksFor (λ t. IsRead key_of clean (rows t)) NoTables old mid (Ok found)) where
  -- one of the rows lacks the form of its kind
  pub none_read : ((t : Tables) → list_all clean (rows t) ≡ false → says t None) → (key : RowKey) → found ≡ read.Unclean key
      → LooksFor says NoTables old mid (Ok None)
  none_read none key is =
      found_on (λ t. IsRead key_of clean (rows t)) says NoTables NoTables old mid found None
      (λ t h. let it = subst (IsRead key_of clean (rows t)) is h in none t (not_all clean (rows t) it.0 it.1 it.2)) looks

  module _ (xs : List X) (is : found ≡ read.Rows xs) where
    -- and then others are read
    pub then_read : (two : Tables → Option RegisterRows → Type 0)
        → ((t : Tables) → xs ≡ rows t → (register : Option RegisterRows) → two t register → says t register)
        → (new : State) (result : Result (Option RegisterRows) StoreFault) → LooksFor two NoTables mid new result
        → LooksFor says NoTables old new result
    then_read two so new result second =
        found_then (λ t. IsRead key_of clean (rows t)) two says NoTables NoTables NoTables old mid new found
        (λ t h register it. so t (rows_are key_of clean (rows t) found xs is h) register it) (λ t h no. no) looks result second

    pub all_read : (register : Option RegisterRows) → ((t : Tables) → xs ≡ rows t → says t register)
        → LooksFor says NoTables old mid (Ok register)
    all_read register so =
        found_on (λ t. IsRead key_of clean (rows t)) says NoTables NoTables old mid found register
        (λ t h. so t (rows_are key_of clean (rows t) found xs is h)) looks

  pub no_memory : (fault : StoreFault) → fault ≡ Memory → LooksFor says NoTables old mid (Err fault)
  no_memory fault is =
      fault_on (λ t. IsRead key_of clean (rows t)) says NoTables NoTables old mid found fault
      (λ unclean t h. let both : Memory ≡ Unclean = sym is ∙ unclean in cc) looks

-- the rows of a hub rise
pub as_they_rise : {X : Type 0} (says : Tables → X → Type 0) (old new : State) (result : Result X StoreFault)
    → LooksFor (λ t x. Rising t → says t x) NoTables old new result → LooksFor says NoTables old new result
as_they_rise says old new (Ok x) it = record {
  answers = λ clean holds. it.answers clean holds (hub_rises old (holds (it.same clean).0));
  same = it.same;
  stays = it.stays;
  leaves = λ clean. record { done = (it.leaves clean).done; fault = (it.leaves clean).fault };
  mode = it.mode;
  crash = it.crash;
  unclean = λ clean holds e. it.unclean clean holds cc;
}
as_they_rise says old new (Err fault) it = record {
  answers = λ clean holds. tt;
  same = λ clean. tt;
  stays = it.stays;
  leaves = λ clean. record { done = tt; fault = (it.leaves clean).fault };
  mode = it.mode;
  crash = it.crash;
  unclean = it.unclean;
}
