-- What one file does to a run of a hub.
use Rattle.std.proofs.Common.{◌≡◌, ℕ, List, [], ◌∷◌, ◌++◌, refl, sym, subst, ap, ◌∙◌}
use Rattle.std.proofs.lemmas.Grind.{flat_map-append}
use Rattle.std.proofs.lemmas.List.{append-nil}
use Rattle.hub_parties.specs.Rows.{RegisterRows}
use Rattle.hub_store.specs.declared.store.Store.{Ghosts}
use Rattle.hub_core.specs.HubRules.Laws.{SoundHub}
use Rattle.hub_requests.specs.declared.reply.Reply.{Reply}
use Rattle.hub_requests.specs.declared.request.Input.{Input}
use Rattle.hub_core.specs.Hub.{RanOver, RunsFrom, StaysSound, SteppedOver, StepsFrom}
use Rattle.hub_commands.specs.Import.{Looked, Answered, Unread, Unnamed, NoMemory, Unprinted}
use Rattle.hub_commands.specs.Import.{uploads, replies, upload_of, reply_of}
use Rattle.hub_commands.specs.OneFile.{FileDone}

module _ {S : Type 0} (g : Ghosts S) (asked : List ℕ → Input) where
  -- an upload of these bytes is a step from the one hub to the other
  abbrev pub StepsTo : RegisterRows × S → RegisterRows × S → List ℕ → Reply → Type 0
  StepsTo old new bytes = StepsFrom g old new (asked bytes)

  uploads_none : (looked : List Looked) (one : Looked) → upload_of asked one ≡ []
      → uploads asked looked ≡ uploads asked (looked ++ one ∷ [])
  uploads_none looked one none =
      sym (flat_map-append (upload_of asked) looked (one ∷ [])
      ∙ ap (λ (xs : List Input). uploads asked looked ++ (xs ++ [])) none
      ∙ append-nil (uploads asked looked))

  replies_none : (looked : List Looked) (one : Looked) → reply_of one ≡ [] → replies looked ≡ replies (looked ++ one ∷ [])
  replies_none looked one none =
      sym (flat_map-append reply_of looked (one ∷ [])
      ∙ ap (λ (xs : List Reply). replies looked ++ (xs ++ [])) none
      ∙ append-nil (replies looked))

  stays : (first between new : RegisterRows × S) (looked : List Looked) (one : Looked)
      → upload_of asked one ≡ []
      → reply_of one ≡ []
      → RunsFrom g first between (uploads asked looked) (replies looked)
      → new ≡ between
      → RunsFrom g first new (uploads asked (looked ++ one ∷ [])) (replies (looked ++ one ∷ []))
  stays first between new looked one none no_reply ran same =
      subst (λ (rs : List Reply). RunsFrom g first new (uploads asked (looked ++ one ∷ [])) rs) (replies_none looked one no_reply)
      (subst (λ (xs : List Input). RunsFrom g first new xs (replies looked)) (uploads_none looked one none)
      (subst (λ (hub : RegisterRows × S). RunsFrom g first hub (uploads asked looked) (replies looked)) (sym same) ran))

  module _
      (more : (old between new : S) (inputs : List Input) (replies : List Reply) (input : Input) (reply : Reply)
      → SoundHub (g.content old)
      → RanOver g old between inputs replies
      → SteppedOver g between new input reply
      → RanOver g old new (inputs ++ input ∷ []) (replies ++ reply ∷ [])) where
    pub runs_more : (old between new : RegisterRows × S) (looked : List Looked) (one : Looked)
        → (g.honest new.1 → g.honest between.1)
        → StaysSound g old between
        → RunsFrom g old between (uploads asked looked) (replies looked)
        → FileDone (StepsTo between new) (new ≡ between) one
        → RunsFrom g old new (uploads asked (looked ++ one ∷ [])) (replies (looked ++ one ∷ []))
    runs_more old between new looked (Answered name bytes reply) was_honest holds ran did = λ h sound.
        let before = ran (was_honest h) sound in
        let step = did h (holds (was_honest h) sound) in
        subst (λ (rs : List Reply). RanOver g old.1 new.1
        (uploads asked (looked ++ Answered name bytes reply ∷ [])) rs)
        (sym (flat_map-append reply_of looked (Answered name bytes reply ∷ [])))
        (subst (λ (xs : List Input). RanOver g old.1 new.1 xs (replies looked ++ reply ∷ []))
        (sym (flat_map-append (upload_of asked) looked (Answered name bytes reply ∷ [])))
        (more old.1 between.1 new.1 (uploads asked looked) (replies looked) (asked bytes) reply sound.sound before step))
    runs_more old between new looked (Unread name) was_honest holds ran did =
        stays old between new looked (Unread name) refl refl ran did
    runs_more old between new looked Unnamed was_honest holds ran did =
        stays old between new looked Unnamed refl refl ran did
    runs_more old between new looked (NoMemory name) was_honest holds ran did =
        stays old between new looked (NoMemory name) refl refl ran did
    runs_more old between new looked (Unprinted name) was_honest holds ran did =
        stays old between new looked (Unprinted name) refl refl ran did
