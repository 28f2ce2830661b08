-- Proves that a step and a run of the hub do what the laws say of the shared machine.
use Rattle.std.proofs.Common.{◌≡◌, ◌≢◌, ◌↔◌, inl, inr, ℕ, zero, suc, ◌+◌, drop, List, [], ◌∷◌}
use Rattle.std.proofs.Common.{◌++◌, length, map, Option, refl, sym, ap, subst}
use Rattle.std.proofs.Common.{◌∙◌, append_assoc}
use Rattle.std.specs.Prelude.{slice_get, Result, Ok, Err, IfOk, OnErr}
use Rattle.std.specs.List.{AllByRecursion}
use Rattle.std.specs.Option.{unwrap_or}
use Rattle.hub_parties.specs.Rows.{RegisterRows}
use Rattle.hub_tables.specs.Register.{register_of, parties_in}
use Rattle.hub_tables.specs.Tables.{Tables, view}
use Rattle.hub_store.specs.declared.fault.StoreFault.{StoreFault}
use Rattle.hub_store.specs.declared.store.Store.{Ghosts}
use Rattle.hub_rules.specs.Laws.{SoundHub}
use Rattle.hub_law.specs.Laws.{StepIsOwn, RunIsOwn, IsOther, own_report}
use Rattle.hub_law.specs.Machine.{Inputs, step_under, shared_step, shared_run, replies_to}
use Rattle.hub_law.specs.Mark.{Mark, Whole, StoppedEmpty, StoppedBare}
use Rattle.hub_law.specs.Replies.{reply, stopped_line}
use Rattle.hub_law.specs.Stops.{upload_of}
use Rattle.hub_requests.specs.declared.reply.Outcome.TheVariants.{Stopped}
use Rattle.hub_requests.specs.declared.reply.Reply.{Reply}
use Rattle.hub_requests.specs.declared.request.Input.{Input}
use Rattle.hub_core.specs.Laws.{OfTheMachine}
use Rattle.hub_core.specs.Steps.{OneMore, CrashLeaves, LeavesOf, IsAnswered, AnsweredOrUndone, Stepped, RunAlone}
use Rattle.hub_core.specs.Steps.{StoppedSince, RunLeaves, StopsTold}
use Rattle.hub_core.specs.Steps.{Does, RunAndCrash, SoundWith, acts_of}

-- two requests that do the same to these tables are answered the same
module _ (count : ℕ) (does same : Does) (t : Tables) (agree : (mark : Mark) → does mark t ≡ same mark t) where
  pub leaves_as : (mark : Mark) (after : Tables) (before : Tables → Type 0) (u : Tables)
      → CrashLeaves count does t mark after before u
      → CrashLeaves count same t mark after before u
  leaves_as mark after before u (inl e) = inl e
  leaves_as mark after before u (inr (inl e)) = inr (inl e)
  leaves_as mark after before u (inr (inr more)) = inr (inr (record {
    more = more.more;
    one = more.one;
    is = sym (ap (λ (r : Reply × Tables). r.1) (agree more.more)) ∙ more.is;
  }))

pub asked_same : {S : Type 0} (g : Ghosts S) (old new : S) (count : ℕ)
    (does same : Does) (result : Result Reply StoreFault)
    → ((mark : Mark) → does mark (g.content old) ≡ same mark (g.content old))
    → AnsweredOrUndone g old new count does result
    → AnsweredOrUndone g old new count same result
asked_same g old new count does same (Ok answer) agree asked = record {
  answered = λ h. let a = asked.answered h in record {
    mark = a.mark;
    is = sym (agree a.mark) ∙ a.is;
    leaves = λ u l. leaves_as count does same (g.content old) agree a.mark (g.content new) (g.left old) u (a.leaves u l);
  };
  undone = λ h. tt;
}
asked_same g old new count does same (Err fault) agree asked = record {
  answered = λ h. tt;
  undone = λ h. let a = asked.undone h in record {
    same = a.same;
    leaves = λ u l. elim (a.leaves u l) [
      | inl e ↦ inl e
      | inr more ↦ inr (record {
        more = more.more;
        one = more.one;
        is = sym (ap (λ (r : Reply × Tables). r.1) (agree more.more)) ∙ more.is;
      })
    ];
  };
}

-- under the register that the tables hold
pub asked_with : {S : Type 0} (g : Ghosts S) (old new : S)
    (register : RegisterRows) (input : Input) (result : Result Reply StoreFault)
    → SoundWith register (g.content old)
    → AnsweredOrUndone g old new (acts_of (upload_of register input)) (λ mark t. step_under register t input mark) result
    → AnsweredOrUndone g old new (acts_of (upload_of (register_of (g.content old)) input)) (λ mark t. shared_step t input mark) result
asked_with g old new register input result here asked =
    subst (λ (r : RegisterRows). AnsweredOrUndone g old new
    (acts_of (upload_of r input)) (λ mark t. shared_step t input mark) result)
    here.held
    (asked_same g old new (acts_of (upload_of register input)) (λ mark t. step_under register t input mark)
    (λ mark t. shared_step t input mark) result
    (λ mark. ap (λ (r : RegisterRows). step_under r (g.content old) input mark) here.held) asked)

module _ (laws : OfTheMachine) where
  -- what a crash leaves after an input is sound
  leaves_sound : (t after : Tables) (before left : Tables → Type 0) (input : Input) (mark : Mark)
      → SoundHub t
      → SoundHub after
      → ((u : Tables) → before u → SoundHub u)
      → (u : Tables) → LeavesOf t input mark after before u → SoundHub u
  leaves_sound t after before left input mark hub sound were u (inl e) = subst SoundHub (sym e) sound
  leaves_sound t after before left input mark hub sound were u (inr (inl e)) = were u e.1
  leaves_sound t after before left input mark hub sound were u (inr (inr more)) = subst SoundHub more.is (laws.sound t input more.more hub)

  pub stepped : {S : Type 0} (g : Ghosts S) (old new : S) (input : Input) (reply : Reply)
      → SoundHub (g.content old)
      → IsAnswered g old new (acts_of (upload_of (register_of (g.content old)) input)) (λ mark t. shared_step t input mark) reply
      → Stepped (g.content old) (g.content new) (g.left old) (g.left new) input reply
  stepped g old new input reply hub a =
      let t = g.content old in
      let sound : SoundHub (g.content new) = subst (λ (x : Reply × Tables). SoundHub x.1) a.is (laws.sound t input a.mark hub) in
      record {
        mark = a.mark;
        is = a.is;
        stop = subst (λ (x : Reply × Tables). (x.0.outcome ≡ Stopped) ↔ (a.mark ≢ Whole)) a.is (laws.outcome t input a.mark);
        sound = sound;
        parties = sym (ap (λ (x : Reply × Tables). parties_in x.1) a.is) ∙ laws.parties t ((input, a.mark) ∷ []) hub;
        balance = laws.balance (g.content new) sound;
        alone =
            λ gln other. let law : StepIsOwn gln t input a.mark = laws.step_own gln t input a.mark hub other in record {
              seen = sym (ap (λ (x : Reply × Tables). view gln x.1) a.is) ∙ law.seen;
              told = λ called. law.told called ∙ ap (λ (x : Reply × Tables). x.0 ∷ []) a.is;
              status = λ asks whole.
                  let one : (shared_step t input Whole).0 ≡ own_report gln (view gln t) =
                  ap (λ (given : Option Reply). unwrap_or given reply) (laws.status gln t [] [] input hub other asks) in
                  sym (ap (λ (x : Reply × Tables). x.0) a.is) ∙ ap (λ mark. (shared_step t input mark).0) whole ∙ one;
            };
        leaves = a.leaves;
        leaves_sound = λ were u l. leaves_sound t (g.content new) (g.left old) (g.left new) input a.mark hub sound were u (a.leaves u l);
      }

  -- the reply to a request that was tried: `stopped` if memory ran out or the store failed
  pub replied : {S : Type 0} (g : Ghosts S) (old new : S)
      (input : Input) (answered : Result Reply StoreFault) (body : List ℕ) (given : Reply)
      → body ≡ stopped_line
      → IfOk answered (λ reply. given ≡ reply)
      → OnErr answered (given ≡ reply Stopped body)
      → g.honest new
      → SoundHub (g.content old)
      → AnsweredOrUndone g old new (acts_of (upload_of (register_of (g.content old)) input))
      (λ mark t. shared_step t input mark) answered
      → Stepped (g.content old) (g.content new) (g.left old) (g.left new) input given
  replied g old new input (Ok answer) body given says ok err h hub asked =
      subst (λ (given : Reply). Stepped (g.content old) (g.content new) (g.left old) (g.left new) input given) (sym ok)
      (stepped g old new input answer hub (asked.answered h))
  replied g old new input (Err fault) body given says ok err h hub asked =
      let undone = asked.undone h in
      stepped g old new input given hub (record {
        mark = StoppedBare;
        is = laws.bare (g.content old) input ∙ (λ i. (sym (err ∙ ap (λ body. reply Stopped body) says) i, sym undone.same i));
        leaves = λ u l. elim (undone.leaves u l) [
          | inl e ↦ inr (inl (undone.same, e))
          | inr e ↦ inr (inr e)
        ];
      })

  -- the empty reply, if there is no memory even for `stopped`
  pub unanswered : {S : Type 0} (g : Ghosts S) (store : S) (input : Input) (given : Reply)
      → given ≡ reply Stopped []
      → SoundHub (g.content store)
      → Stepped (g.content store) (g.content store) (g.left store) (g.left store) input given
  unanswered g store input given is hub = stepped g store store input given hub (record {
    mark = StoppedEmpty;
    is = laws.empty (g.content store) input ∙ ap (λ (reply : Reply). (reply, g.content store)) (sym is);
    leaves = λ u l. inr (inl (refl, l));
  })

-- what holds of all inputs holds of the one at a position
pub all_at : (P : Input → Type 0) (xs : List Input) (i : ℕ) (x : Input) → AllByRecursion P xs → drop i xs ≡ x ∷ drop (i + 1) xs → P x
all_at P xs i x all is = (subst (AllByRecursion P) is (all_drop i xs all)).0
  where
    all_drop : (i : ℕ) (xs : List Input) → AllByRecursion P xs → AllByRecursion P (drop i xs)
    all_drop zero xs all = all
    all_drop (suc i) [] all = tt
    all_drop (suc i) (x ∷ xs) all = all_drop i xs all.1

-- a run with one more input
run_more : (t : Tables) (inputs : Inputs) (input : Input) (mark : Mark)
    → shared_run t (inputs ++ (input, mark) ∷ [])
    ≡ (
      (shared_run t inputs).0
          ++ (shared_step (shared_run t inputs).1 input mark).0 ∷ [],
      (shared_step (shared_run t inputs).1 input mark).1,
    )
run_more t [] input mark = refl
run_more t (x ∷ inputs) input mark =
    ap (λ (r : List Reply × Tables). ((shared_step t x.0 x.1).0 ∷ r.0, r.1))
    (run_more (shared_step t x.0 x.1).1 inputs input mark)

firsts_more : (marked : Inputs) (x : Input) (mark : Mark)
    → map (λ (x : Input × Mark). x.0) (marked ++ (x, mark) ∷ []) ≡ map (λ (x : Input × Mark). x.0) marked ++ x ∷ []
firsts_more [] x mark = refl
firsts_more (y ∷ marked) x mark = ap (λ xs. y.0 ∷ xs) (firsts_more marked x mark)

stops_more : (marked : Inputs) (replies : List Reply) (x : Input) (mark : Mark) (reply : Reply) → StopsTold marked replies
    → ((reply.outcome ≡ Stopped) ↔ (mark ≢ Whole)) → StopsTold (marked ++ (x, mark) ∷ []) (replies ++ reply ∷ [])
stops_more [] [] x mark reply told one = (one, tt)
stops_more [] (r ∷ replies) x mark reply told one = absurd told
stops_more (y ∷ marked) [] x mark reply told one = absurd told
stops_more (y ∷ marked) (r ∷ replies) x mark reply told one = (told.0, stops_more marked replies x mark reply told.1 one)

module _ (laws : OfTheMachine) where
  run_alone : (t after : Tables) (marked : Inputs) (replies : List Reply)
      → SoundHub t
      → shared_run t marked ≡ (replies, after)
      → (gln : List ℕ) → IsOther gln t → RunAlone gln t after marked replies
  run_alone t after marked replies hub is gln other =
      let law : RunIsOwn gln t marked = laws.run_own gln t marked hub other in record {
        seen = sym (ap (λ (x : List Reply × Tables). view gln x.1) is) ∙ law.seen;
        told = sym (ap (λ (x : List Reply × Tables). replies_to gln marked x.0) is) ∙ law.told;
        status = λ earlier later input e asks.
            sym (ap (λ (x : List Reply × Tables). slice_get x.0 (length earlier)) is)
            ∙ ap (λ xs. slice_get (shared_run t xs).0 (length earlier)) e
            ∙ laws.status gln t earlier later input hub other asks;
      }

  pub ran_none : (t : Tables) (left : Tables → Type 0) → SoundHub t → RunAndCrash t t left left [] []
  ran_none t left hub = record {
    run = record {
      marked = [];
      are = refl;
      is = refl;
      stops = tt;
      sound = hub;
      parties = refl;
      balance = laws.balance t hub;
      alone = run_alone t t [] [] hub refl;
    };
    leaves = λ u l. inr (inl (refl, l));
    leaves_sound = λ were u l. were u l;
  }

  since_more : (t middle after : Tables) (marked : Inputs) (x : Input) (mark : Mark) (u : Tables)
      → (shared_step middle x mark).1 ≡ after
      → after ≡ middle
      → StoppedSince t middle marked u → StoppedSince t after (marked ++ (x, mark) ∷ []) u
  since_more t middle after marked x mark u is same s = record {
    earlier = s.earlier;
    input = s.input;
    mark = s.mark;
    later = s.later ++ (x, mark) ∷ [];
    are = ap (λ (xs : Inputs). xs ++ (x, mark) ∷ []) s.are ∙ append_assoc s.earlier ((s.input, s.mark) ∷ s.later) ((x, mark) ∷ []);
    more = s.more;
    since = s.since ∙ sym same;
  }

  leaves_more : (t middle after : Tables) (before left then : Tables → Type 0) (marked : Inputs) (x : Input) (mark : Mark)
      → (shared_run t marked).1 ≡ middle → (shared_step middle x mark).1 ≡ after
      → ((u : Tables) → left u → RunLeaves t marked middle before u) → (u : Tables) → LeavesOf middle x mark after left u
      → RunLeaves t (marked ++ (x, mark) ∷ []) after before u
  leaves_more t middle after before left then marked x mark here is kept u (inl e) = inl e
  leaves_more t middle after before left then marked x mark here is kept u (inr (inl e)) = elim (kept u e.1) [
    | inl a ↦ inl (a ∙ sym e.0)
    | inr (inl b) ↦ inr (inl (e.0 ∙ b.0, b.1))
    | inr (inr c) ↦ inr (inr (since_more t middle after marked x mark u is e.0 c))
  ]
  leaves_more t middle after before left then marked x mark here is kept u (inr (inr more)) = inr (inr (record {
    earlier = marked;
    input = x;
    mark = mark;
    later = [];
    are = refl;
    more =
        subst (λ (m : Tables). OneMore (acts_of (upload_of (register_of m) x)) (λ mark t. shared_step t x mark) m mark u)
        (sym here) more;
    since =
        ap (λ (r : List Reply × Tables). r.1) (run_more t marked x mark)
        ∙ ap (λ (m : Tables). (shared_step m x mark).1) here
        ∙ is;
  }))

  pub ran_more :
      (t middle after : Tables) (before left then : Tables → Type 0) (inputs : List Input) (x : Input) (replies : List Reply)
      (reply : Reply)
      → SoundHub t → RunAndCrash t middle before left inputs replies → Stepped middle after left then x reply
      → RunAndCrash t after before then (inputs ++ x ∷ []) (replies ++ reply ∷ [])
  ran_more t middle after before left then inputs x replies reply hub before_it s =
      let r = before_it.run in
      let is : shared_run t (r.marked ++ (x, s.mark) ∷ []) ≡ (replies ++ reply ∷ [], after) =
      run_more t r.marked x s.mark
      ∙ ap (λ (y : List Reply × Tables). (y.0 ++ (shared_step y.1 x s.mark).0 ∷ [], (shared_step y.1 x s.mark).1)) r.is
      ∙ ap (λ (y : Reply × Tables). (replies ++ y.0 ∷ [], y.1)) s.is in
      record {
        run = record {
          marked = r.marked ++ (x, s.mark) ∷ [];
          are = firsts_more r.marked x s.mark ∙ ap (λ xs. xs ++ x ∷ []) r.are;
          is = is;
          stops = stops_more r.marked replies x s.mark reply r.stops s.stop;
          sound = s.sound;
          parties = s.parties ∙ r.parties;
          balance = s.balance;
          alone = run_alone t after (r.marked ++ (x, s.mark) ∷ []) (replies ++ reply ∷ []) hub is;
        };
        leaves =
            λ u l. leaves_more t middle after before left
            then r.marked x s.mark (ap (λ (y : List Reply × Tables). y.1) r.is) (ap (λ (y : Reply × Tables). y.1) s.is)
            before_it.leaves u (s.leaves u l);
        leaves_sound = λ were u l. s.leaves_sound (before_it.leaves_sound were) u l;
      }
