-- Proves which connections are taken, and which are added to those that have ended.
use Rattle.std.proofs.Common.{◌≡◌, ◌||◌, Bool, true, false, IsTrue, List, [], ◌∷◌, ◌++◌, Option, Some, None, refl, sym}
use Rattle.std.proofs.Common.{ap, ◌∙◌, append_assoc}
use Rattle.std.proofs.lemmas.Grind.{flat_map-append}
use Rattle.std.proofs.lemmas.List.{append-nil, map-append}
use Rattle.hub_serve.proofs.Using.{adds_then, some_is}
use Rattle.hub_serve.specs.Connections.{Adds, Closed, KnownConnections, TakesFirst}
use Rattle.hub_serve.specs.Serve.{AreFirst, Connection, Passes, ends_in, listed, moments_in, sent_in}

pub takes_none : {A : Type 0} (known rest : Option (List A)) → rest ≡ known → TakesFirst known rest []
takes_none None rest e = tt
takes_none (Some all) rest e = (all, refl, e)

-- a flag that was raised
pub went_up : (old new : Bool) → new ≡ (old || true) → IsTrue new
went_up true new e = e
went_up false new e = e

-- those that still come stay the same
pub takes_still : {A : Type 0} (known rest later : Option (List A)) (xs : List A) → TakesFirst known rest xs → later ≡ rest
    → TakesFirst known later xs
takes_still None rest later xs takes e = tt
takes_still (Some all) rest later xs takes e = (takes.0, takes.1, e ∙ takes.2)

-- first these are taken, and then those
pub takes_both : {A : Type 0} (known rest later : Option (List A)) (xs ys : List A) → TakesFirst known rest xs
    → TakesFirst rest later ys
    → TakesFirst known later (xs ++ ys)
takes_both None rest later xs ys first second = tt
takes_both (Some all) None later xs ys first second = absurd cc
takes_both {A} (Some all) (Some rest) later xs ys first second = (
  second.0,
  first.1 ∙ ap (λ (l : List A). xs ++ l) (some_is (sym first.2) ∙ second.1) ∙ sym (append_assoc xs ys second.0),
  second.2,
)

pub are_first : {A : Type 0} (known rest : Option (List A)) (xs : List A) → TakesFirst known rest xs → AreFirst known xs
are_first None rest xs takes = tt
are_first (Some all) rest xs takes = (takes.0, takes.1)

pub adds_none : (old new : Option (List Closed)) → new ≡ old → Adds old new []
adds_none None new e = tt
adds_none (Some all) new e = e ∙ ap (λ (l : List Closed). Some l) (sym (append-nil all))

-- those that have ended stay the same
pub adds_still : (old between new : Option (List Closed)) (xs : List Closed) → Adds old between xs → new ≡ between → Adds old new xs
adds_still None between new xs adds e = tt
adds_still (Some all) between new xs adds e = e ∙ adds

pub passes_none : (known : KnownConnections) → Passes known known []
passes_none known = record {
  clients = takes_none known.coming known.coming refl;
  moments = takes_none known.moments known.moments refl;
  closed = adds_none known.closed known.closed refl;
}

-- one more connection
pub passes_more : (old between new : KnownConnections) (served : List Connection) (one : Connection) → Passes old between served
    → Passes between new (one ∷ [])
    → Passes old new (served ++ one ∷ [])
passes_more old between new served one first second = record {
  clients =
      rw (map-append (λ (c : Connection). c.bytes) served (one ∷ []))
      (takes_both old.coming between.coming new.coming (sent_in served) (sent_in (one ∷ [])) first.clients second.clients);
  moments =
      rw (flat_map-append (λ (c : Connection). listed c.moment) served (one ∷ []))
      (takes_both old.moments between.moments new.moments (moments_in served) (moments_in (one ∷ [])) first.moments second.moments);
  closed =
      rw (flat_map-append (λ (c : Connection). listed c.closed) served (one ∷ []))
      (adds_then old.closed between.closed new.closed (ends_in served) (ends_in (one ∷ [])) first.closed second.closed);
}
