-- Proves that serving stops at once when the store has failed for good, if it is to.
use Rattle.std.proofs.Common.{◌≡◌, ◌⊎◌, inl, inr, ℕ, List, [], ◌∷◌, ◌++◌, length, None, refl, ◌∙◌}
use Rattle.hub_parties.specs.Rows.{RegisterRows}
use Rattle.hub_store.specs.declared.store.Store.{Ghosts}
use Rattle.hub_http.specs.HubCore.Hub.{RunsFrom, StepsFrom}
use Rattle.hub_serve.specs.Broken.{WasWhole}
use Rattle.hub_serve.specs.One.{DidAsked}
use Rattle.hub_serve.specs.Serve.{Connection, inputs, replies}

none_of : {X : Type 0} (xs : List X) → length xs ≡ 0 → xs ≡ []
none_of [] none = refl
none_of (x ∷ xs) none = cc

-- the store had not failed for good before a connection, or it is the first connection
pub was_whole : {S : Type 0} (g : Ghosts S) (old between new : RegisterRows × S) (served : List Connection) (one : Connection)
    (number : ℕ)
    → length served ≡ number
    → (g.honest new.1 → g.honest between.1)
    → (number ≡ 0) ⊎ (g.broken between.1 ≡ None)
    → RunsFrom g old between (inputs served) (replies served)
    → DidAsked (StepsFrom g between new) (new ≡ between) one.asked
    → WasWhole g old new (served ++ one ∷ [])
was_whole g old between new served one number counted was_honest whole ran did = record {
  earlier = served;
  last = one;
  are = refl;
  between = between;
  was_honest = was_honest;
  ran = ran;
  not_yet = elim whole [
    | inl first ↦ inl (none_of served (counted ∙ first))
    | inr whole ↦ inr whole
  ];
  did = did;
}
