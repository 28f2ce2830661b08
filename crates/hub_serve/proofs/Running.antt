-- Proves that each connection adds to a run of a hub.
use Rattle.std.proofs.Common.{◌≡◌, List, [], ◌∷◌, ◌++◌, Option, Some, None, sym, subst, ap, ◌∙◌}
use Rattle.std.proofs.lemmas.Grind.{flat_map-append}
use Rattle.std.proofs.lemmas.List.{append-nil}
use Rattle.hub_parties.specs.Rows.{RegisterRows}
use Rattle.hub_store.specs.declared.store.Store.{Ghosts}
use Rattle.hub_http.specs.HubRules.Laws.{SoundHub}
use Rattle.hub_requests.specs.declared.reply.Reply.{Reply}
use Rattle.hub_requests.specs.declared.request.Input.{Input}
use Rattle.hub_http.specs.HubCore.Hub.{RanOver, RunsFrom, StaysSound, SteppedOver, StepsFrom}
use Rattle.hub_serve.specs.One.{DidAsked}
use Rattle.hub_serve.specs.Serve.{Exchange, Connection, inputs, input_in, inputs_of, replies, replies_of}

module _ {S : Type 0} (g : Ghosts S) where
  module _
      (more : (old between new : S) (inputs : List Input) (replies : List Reply) (input : Input) (reply : Reply)
      → SoundHub (g.content old)
      → RanOver g old between inputs replies
      → SteppedOver g between new input reply
      → RanOver g old new (inputs ++ input ∷ []) (replies ++ reply ∷ [])) where
    runs_then : (old between new : RegisterRows × S) (earlier : List Input) (told : List Reply) (asked : Option Exchange)
        → (g.honest new.1 → g.honest between.1)
        → StaysSound g old between
        → RunsFrom g old between earlier told
        → DidAsked (StepsFrom g between new) (new ≡ between) asked
        → RunsFrom g old new (earlier ++ inputs_of asked) (told ++ replies_of asked)
    runs_then old between new earlier told None was_honest stays ran did =
        subst (λ (xs : List Input). RunsFrom g old new xs (told ++ [])) (sym (append-nil earlier))
        (subst (λ (rs : List Reply). RunsFrom g old new earlier rs) (sym (append-nil told))
        (subst (λ (hub : RegisterRows × S). RunsFrom g old hub earlier told) (sym did) ran))
    runs_then old between new earlier told (Some asked) was_honest stays ran did = λ h sound.
        let before = ran (was_honest h) sound in
        let step = did h (stays (was_honest h) sound) in
        more old.1 between.1 new.1 earlier told (input_in asked) asked.reply sound.sound before step

    -- one more connection
    pub runs_more : (old between new : RegisterRows × S) (served : List Connection) (one : Connection)
        → (g.honest new.1 → g.honest between.1)
        → StaysSound g old between
        → RunsFrom g old between (inputs served) (replies served)
        → DidAsked (StepsFrom g between new) (new ≡ between) one.asked
        → RunsFrom g old new (inputs (served ++ one ∷ [])) (replies (served ++ one ∷ []))
    runs_more old between new served one was_honest stays ran did =
        let asks : inputs served ++ inputs_of one.asked ≡ inputs (served ++ one ∷ []) =
        ap (λ (xs : List Input). inputs served ++ xs) (sym (append-nil (inputs_of one.asked)))
        ∙ sym (flat_map-append (λ (c : Connection). inputs_of c.asked) served (one ∷ [])) in
        let tells : replies served ++ replies_of one.asked ≡ replies (served ++ one ∷ []) =
        ap (λ (rs : List Reply). replies served ++ rs) (sym (append-nil (replies_of one.asked)))
        ∙ sym (flat_map-append (λ (c : Connection). replies_of c.asked) served (one ∷ [])) in
        subst (λ (rs : List Reply). RunsFrom g old new (inputs (served ++ one ∷ [])) rs) tells
        (subst (λ (xs : List Input). RunsFrom g old new xs (replies served ++ replies_of one.asked)) asks
        (runs_then old between new (inputs served) (replies served) one.asked was_honest stays ran did))
