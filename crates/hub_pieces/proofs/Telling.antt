-- Calls one after another, and what they tell.
use Rattle.std.proofs.Common.{Result, Ok, Err, refl, ◌∙◌, subst}
use Rattle.hub_store.specs.declared.fault.StoreFault.{StoreFault}
use Rattle.hub_tables.specs.Tables.{Tables}
use Rattle.hub_pieces.specs.AllRows.{Tells}

module _ {S : Type 0} (content : S → Tables) (honest : S → Type 0) where
  -- without any call
  pub at_once : {X : Type 0} (says : Tables → X → Type 0) (s : S) (x : X) → says (content s) x
      → Tells content honest says s s (Ok x)
  at_once says s x is = record { answers = λ h. is; stays = λ h. refl; was_honest = λ h. h; fails = tt }

  -- what follows from an answer
  pub follows : {X Y : Type 0} (one : Tables → X → Type 0) (all : Tables → Y → Type 0) (old new : S) (x : X) (y : Y)
      → ((t : Tables) → one t x → all t y)
      → Tells content honest one old new (Ok x) → Tells content honest all old new (Ok y)
  follows one all old new x y so it = record {
    answers = λ h. so (content old) (it.answers h);
    stays = it.stays;
    was_honest = it.was_honest;
    fails = tt;
  }

  -- a second call, after an answer of the first
  pub then : {X Y : Type 0} (one : Tables → X → Type 0) (two all : Tables → Y → Type 0) (old mid new : S) (x : X)
      → ((t : Tables) → one t x → (y : Y) → two t y → all t y)
      → Tells content honest one old mid (Ok x) → (result : Result Y StoreFault) → Tells content honest two mid new result
      → Tells content honest all old new result
  then one two all old mid new x so a (Ok y) b = record {
    answers = λ h. let before = b.was_honest h in
        so (content old) (a.answers before) y (subst (λ (t : Tables). two t y) (a.stays before) (b.answers h));
    stays = λ h. b.stays h ∙ a.stays (b.was_honest h);
    was_honest = λ h. a.was_honest (b.was_honest h);
    fails = tt;
  }
  then one two all old mid new x so a (Err e) b = record {
    answers = λ h. tt;
    stays = λ h. tt;
    was_honest = λ h. tt;
    fails = b.fails;
  }
