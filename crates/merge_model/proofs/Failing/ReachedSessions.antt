-- What is reached by a session's parts.
use Rattle.std.proofs.Common.{◌≡◌, ◌+◌, ◌-◌, ◌<◌, ◌≤◌, ℕ, suc, arith, [], Option, Some, None, refl, ap, sym, subst, ◌∙◌}
use Rattle.merge_types.specs.declared.identifiers.SiteId.{SiteId}
use Rattle.merge_batch.specs.declared.refusal.Refusal.{Refusal}
use Rattle.merge_schema.specs.declared.publication.Publication.{Publication}
use Rattle.merge_model.specs.Failing.{Faulty, faulty}
use Rattle.merge_model.specs.World.Session.{Session, answered_as, session_after_reply, ask, exchange, then_deliver, all_uploads, unless_stopped, unsent_generations, uploads_up_to, with_upload}
use Rattle.merge_model.specs.World.Events.{machine}
use Rattle.merge_model.specs.World.Steps.{Action, Deliver, Send, SendUpload, Sending}
use Rattle.merge_model.specs.declared.outcome.Outcome.TheVariants.{Closes, Discards, Forgot, Made, NoLetter, NoPost, Passed, Posted, Refuses, Took}
use Rattle.merge_model.specs.declared.outcome.Outcome.{Outcome}
use Rattle.merge_model.specs.declared.outcome.Taken.{Taken}
use Rattle.merge_model.specs.World.{Saying, World}
use Rattle.merge_model.specs.Failing.Reach.{Acts, Asks, Uploads, at, stepping, with_outcome}
use Rattle.merge_model.specs.Failing.Reach.{Reaches}
use Rattle.merge_model.specs.Failing.{Slips}
use Rattle.merge_model.proofs.Failing.Reached.{same-start, same-end, then, under}

module _ (publication : Publication) (says : Saying) (site : SiteId) where
  abbrev Part : Type 0
  Part = Session (Faulty World) → Session (Faulty World)

  pub asked : (sending : Sending) (w v u : World) (number : ℕ) (outcome : Outcome) (a b c : ℕ) → Acts publication says (Send site sending) w v (Posted number) a b → Acts publication says (Deliver number) v u outcome b c
      → Asks publication says site sending w u outcome a c
  unfolding Acts Asks
  asked sending w v u number outcome a b c first second = then (λ l. ask (stepping publication says) site sending (faulty w l)) (λ l. then_deliver (stepping publication says) site (faulty v l, Posted number)) (with_outcome publication says u outcome) a b c
      (under (then_deliver (stepping publication says) site) (λ l. (stepping publication says).act (faulty w l) (Send site sending)) (with_outcome publication says v (Posted number)) a b first) second

  -- of what stood here only the counts are kept
  answered-any : (counted next : Part) (w : World) (x y : ℕ) (l : Slips) (p : Faulty World × Outcome)
      → answered_as (stepping publication says) site counted next (at publication says w x y None l) p ≡ answered_as (stepping publication says) site counted next (at publication says w x y None []) p
  answered-any counted next w x y l (f, Passed) = refl
  answered-any counted next w x y l (f, Made row) = refl
  answered-any counted next w x y l (f, Closes generation) = refl
  answered-any counted next w x y l (f, Posted number) = refl
  answered-any counted next w x y l (f, NoPost) = refl
  answered-any counted next w x y l (f, Took taken) = refl
  answered-any counted next w x y l (f, NoLetter) = refl
  answered-any counted next w x y l (f, Discards rows) = refl
  answered-any counted next w x y l (f, Forgot forgotten) = refl
  answered-any counted next w x y l (f, Refuses refusal) = refl

  arrived-any : (next : Part) (w : World) (x y : ℕ) (l : Slips) (p : Faulty World × Outcome)
      → session_after_reply (stepping publication says) site next (at publication says w x y None l) p ≡ session_after_reply (stepping publication says) site next (at publication says w x y None []) p
  arrived-any next w x y l (f, Passed) = refl
  arrived-any next w x y l (f, Made row) = refl
  arrived-any next w x y l (f, Closes generation) = refl
  arrived-any next w x y l (f, Posted number) = refl
  arrived-any next w x y l (f, NoPost) = refl
  arrived-any next w x y l (f, Took taken) = refl
  arrived-any next w x y l (f, NoLetter) = refl
  arrived-any next w x y l (f, Discards rows) = refl
  arrived-any next w x y l (f, Forgot forgotten) = refl
  arrived-any next w x y l (f, Refuses refusal) = refl

  pub answers : (counted next : Part) (sending : Sending) (w v : World) (x y : ℕ) (outcome : Outcome) (a b : ℕ) → Asks publication says site sending w v outcome a b
      → Reaches (λ l. exchange (stepping publication says) site sending counted next (at publication says w x y None l)) (λ l. answered_as (stepping publication says) site counted next (at publication says w x y None []) (faulty v l, outcome)) a b
  unfolding Acts Asks
  answers counted next sending w v x y outcome a b r = same-start (λ l. exchange (stepping publication says) site sending counted next (at publication says w x y None l))
      (λ l. answered_as (stepping publication says) site counted next (at publication says w x y None []) (ask (stepping publication says) site sending (faulty w l)))
      (λ l. answered_as (stepping publication says) site counted next (at publication says w x y None []) (faulty v l, outcome)) a b
      (λ l. answered-any counted next w x y l (ask (stepping publication says) site sending (faulty w l)))
      (under (answered_as (stepping publication says) site counted next (at publication says w x y None [])) (λ l. ask (stepping publication says) site sending (faulty w l)) (with_outcome publication says v outcome) a b r)

  -- a message that was answered, and its answer that comes
  pub arrives : (counted next : Part) (sending : Sending) (w v u : World) (x y i j number : ℕ) (outcome : Outcome) (a b c : ℕ) → ((l : Slips) → counted (at publication says v x y None l) ≡ at publication says v i j None l)
      → Asks publication says site sending w v (Posted number) a b → Acts publication says (Deliver number) v u outcome b c
      → Reaches (λ l. exchange (stepping publication says) site sending counted next (at publication says w x y None l)) (λ l. session_after_reply (stepping publication says) site next (at publication says v i j None []) (faulty u l, outcome)) a c
  unfolding Acts Asks
  arrives counted next sending w v u x y i j number outcome a b c counts first second = then (λ l. exchange (stepping publication says) site sending counted next (at publication says w x y None l))
      (λ l. session_after_reply (stepping publication says) site next (counted (at publication says v x y None l)) ((stepping publication says).act (faulty v l) (Deliver number)))
      (λ l. session_after_reply (stepping publication says) site next (at publication says v i j None []) (faulty u l, outcome)) a b c
      (answers counted next sending w v x y (Posted number) a b first)
      (same-start (λ l. session_after_reply (stepping publication says) site next (counted (at publication says v x y None l)) ((stepping publication says).act (faulty v l) (Deliver number)))
      (λ l. session_after_reply (stepping publication says) site next (at publication says v i j None []) ((stepping publication says).act (faulty v l) (Deliver number)))
      (λ l. session_after_reply (stepping publication says) site next (at publication says v i j None []) (faulty u l, outcome)) b c
      (λ l. ap (λ (t : Session (Faulty World)). session_after_reply (stepping publication says) site next t ((stepping publication says).act (faulty v l) (Deliver number))) (counts l) ∙ arrived-any next v i j l ((stepping publication says).act (faulty v l) (Deliver number)))
      (under (session_after_reply (stepping publication says) site next (at publication says v i j None [])) (λ l. (stepping publication says).act (faulty v l) (Deliver number)) (with_outcome publication says u outcome) b c second))

  -- there was none to make, or it was refused
  pub asked-other : (sending : Sending) (w v : World) (c : Outcome) (a b : ℕ) → ((number : ℕ) → c ≡ Posted number → ⊥) → Acts publication says (Send site sending) w v c a b
      → Asks publication says site sending w v c a b
  unfolding Acts Asks
  asked-other sending w v c a b other h = same-end (λ l. ask (stepping publication says) site sending (faulty w l)) (λ l. then_deliver (stepping publication says) site (faulty v l, c)) (with_outcome publication says v c) a b
      (λ l. passes c l other) (under (then_deliver (stepping publication says) site) (λ l. (stepping publication says).act (faulty w l) (Send site sending)) (with_outcome publication says v c) a b h)
    where
      passes : (c : Outcome) (l : Slips) → ((number : ℕ) → c ≡ Posted number → ⊥) → then_deliver (stepping publication says) site (faulty v l, c) ≡ (faulty v l, c)
      passes Passed l other = refl
      passes (Made row) l other = refl
      passes (Closes generation) l other = refl
      passes (Posted number) l other = absurd (other number refl)
      passes NoPost l other = refl
      passes (Took taken) l other = refl
      passes NoLetter l other = refl
      passes (Discards rows) l other = refl
      passes (Forgot forgotten) l other = refl
      passes (Refuses refusal) l other = refl

  -- one upload more, and what follows
  pub uploads-on : (n : ℕ) (w v u : World) (count number : ℕ) (taken : Taken) (a b c : ℕ) → Asks publication says site SendUpload w v (Posted number) a b → Acts publication says (Deliver number) v u (Took taken) b c
      → Reaches (λ l. uploads_up_to (stepping publication says) site (suc n) (at publication says w count 0 None l)) (λ l. uploads_up_to (stepping publication says) site n (at publication says u (count + 1) 0 None l)) a c
  uploads-on n w v u count number taken a b c first second = arrives (with_upload (stepping publication says) site) (uploads_up_to (stepping publication says) site n) SendUpload w v u count 0 (count + 1) 0 number (Took taken) a b c (λ l. refl) first second

  -- its reply was refused
  pub uploads-fail : (n : ℕ) (w v u : World) (count number : ℕ) (refusal : Refusal) (a b c : ℕ) → Asks publication says site SendUpload w v (Posted number) a b → Acts publication says (Deliver number) v u (Refuses refusal) b c
      → Reaches (λ l. uploads_up_to (stepping publication says) site (suc n) (at publication says w count 0 None l)) (at publication says u (count + 1) 0 (Some refusal)) a c
  uploads-fail n w v u count number refusal a b c first second = arrives (with_upload (stepping publication says) site) (uploads_up_to (stepping publication says) site n) SendUpload w v u count 0 (count + 1) 0 number (Refuses refusal) a b c (λ l. refl) first second

  -- the upload was refused
  pub uploads-refused : (n : ℕ) (w v : World) (count : ℕ) (refusal : Refusal) (a b : ℕ) → Asks publication says site SendUpload w v (Refuses refusal) a b
      → Reaches (λ l. uploads_up_to (stepping publication says) site (suc n) (at publication says w count 0 None l)) (at publication says v count 0 (Some refusal)) a b
  uploads-refused n w v count refusal a b first = answers (with_upload (stepping publication says) site) (uploads_up_to (stepping publication says) site n) SendUpload w v count 0 (Refuses refusal) a b first

-- nothing more was to be made
module _ (publication : Publication) (says : Saying) (site : SiteId) where
  past-ask : (counted next : Session (Faulty World) → Session (Faulty World)) (w v : World) (x y : ℕ) (l : Slips) (c : Outcome) → ((number : ℕ) → c ≡ Posted number → ⊥) → ((refusal : Refusal) → c ≡ Refuses refusal → ⊥)
      → answered_as (stepping publication says) site counted next (at publication says w x y None []) (faulty v l, c) ≡ at publication says v x y None l
  past-ask counted next w v x y l Passed posted refused = refl
  past-ask counted next w v x y l (Made row) posted refused = refl
  past-ask counted next w v x y l (Closes generation) posted refused = refl
  past-ask counted next w v x y l (Posted number) posted refused = absurd (posted number refl)
  past-ask counted next w v x y l NoPost posted refused = refl
  past-ask counted next w v x y l (Took taken) posted refused = refl
  past-ask counted next w v x y l NoLetter posted refused = refl
  past-ask counted next w v x y l (Discards rows) posted refused = refl
  past-ask counted next w v x y l (Forgot forgotten) posted refused = refl
  past-ask counted next w v x y l (Refuses refusal) posted refused = absurd (refused refusal refl)

  past-arrival : (next : Session (Faulty World) → Session (Faulty World)) (w v : World) (x y : ℕ) (l : Slips) (c : Outcome) → ((taken : Taken) → c ≡ Took taken → ⊥) → ((refusal : Refusal) → c ≡ Refuses refusal → ⊥)
      → session_after_reply (stepping publication says) site next (at publication says w x y None []) (faulty v l, c) ≡ at publication says v x y None l
  past-arrival next w v x y l Passed took refused = refl
  past-arrival next w v x y l (Made row) took refused = refl
  past-arrival next w v x y l (Closes generation) took refused = refl
  past-arrival next w v x y l (Posted number) took refused = refl
  past-arrival next w v x y l NoPost took refused = refl
  past-arrival next w v x y l (Took taken) took refused = absurd (took taken refl)
  past-arrival next w v x y l NoLetter took refused = refl
  past-arrival next w v x y l (Discards rows) took refused = refl
  past-arrival next w v x y l (Forgot forgotten) took refused = refl
  past-arrival next w v x y l (Refuses refusal) took refused = absurd (refused refusal refl)

  pub uploads-past : (n : ℕ) (w v : World) (count : ℕ) (c : Outcome) (a b : ℕ) → ((number : ℕ) → c ≡ Posted number → ⊥) → ((refusal : Refusal) → c ≡ Refuses refusal → ⊥) → Asks publication says site SendUpload w v c a b
      → Reaches (λ l. uploads_up_to (stepping publication says) site (suc n) (at publication says w count 0 None l)) (at publication says v count 0 None) a b
  uploads-past n w v count c a b posted refused first = same-end (λ l. uploads_up_to (stepping publication says) site (suc n) (at publication says w count 0 None l))
      (λ l. answered_as (stepping publication says) site (with_upload (stepping publication says) site) (uploads_up_to (stepping publication says) site n) (at publication says w count 0 None []) (faulty v l, c)) (at publication says v count 0 None) a b
      (λ l. past-ask (with_upload (stepping publication says) site) (uploads_up_to (stepping publication says) site n) w v count 0 l c posted refused) (answers publication says site (with_upload (stepping publication says) site) (uploads_up_to (stepping publication says) site n) SendUpload w v count 0 c a b first)

  pub uploads-stray : (n : ℕ) (w v u : World) (count number : ℕ) (k : Outcome) (a b c : ℕ) → ((taken : Taken) → k ≡ Took taken → ⊥) → ((refusal : Refusal) → k ≡ Refuses refusal → ⊥)
      → Asks publication says site SendUpload w v (Posted number) a b → Acts publication says (Deliver number) v u k b c
      → Reaches (λ l. uploads_up_to (stepping publication says) site (suc n) (at publication says w count 0 None l)) (at publication says u (count + 1) 0 None) a c
  uploads-stray n w v u count number k a b c took refused first second = same-end (λ l. uploads_up_to (stepping publication says) site (suc n) (at publication says w count 0 None l))
      (λ l. session_after_reply (stepping publication says) site (uploads_up_to (stepping publication says) site n) (at publication says v (count + 1) 0 None []) (faulty u l, k)) (at publication says u (count + 1) 0 None) a c
      (λ l. past-arrival (uploads_up_to (stepping publication says) site n) v u (count + 1) 0 l k took refused)
      (arrives publication says site (with_upload (stepping publication says) site) (uploads_up_to (stepping publication says) site n) SendUpload w v u count 0 (count + 1) 0 number k a b c (λ l. refl) first second)

-- the same words by the same publication and the same resolvers
pub acts-by : (p p' : Publication) (s s' : Saying) → p ≡ p' → s ≡ s' → (action : Action) (w v : World) (outcome : Outcome) (a b : ℕ) → Acts p s action w v outcome a b → Acts p' s' action w v outcome a b
acts-by p p' s s' e f action w v outcome a b h = subst (λ (q : Publication). Acts q s' action w v outcome a b) e (subst (λ (t : Saying). Acts p t action w v outcome a b) f h)

pub asks-by : (p p' : Publication) (s s' : Saying) → p ≡ p' → s ≡ s' → (site : SiteId) (sending : Sending) (w v : World) (outcome : Outcome) (a b : ℕ) → Asks p s site sending w v outcome a b → Asks p' s' site sending w v outcome a b
asks-by p p' s s' e f site sending w v outcome a b h = subst (λ (q : Publication). Asks q s' site sending w v outcome a b) e (subst (λ (t : Saying). Asks p t site sending w v outcome a b) f h)

-- the loop: what is left from here, and how it ends
module _ (p : Publication) (s : Saying) (site : SiteId) where
  left : (most i : ℕ) → i < most → most - i ≡ suc (most - (i + 1))
  left most i lt = omega (arith, lt)

  abbrev from : ℕ → World → ℕ → Slips → Session (Faulty World)
  from n w count l = uploads_up_to (stepping p s) site n (at p s w count 0 None l)

  pub uploads-by : (most i : ℕ) (w v u : World) (count last : ℕ) (stop : Option Refusal) (a b c : ℕ) → i < most → Reaches (from most w 0) (from (most - i) v count) a b
      → ((n : ℕ) → Reaches (from (suc n) v count) (at p s u last 0 stop) b c) → Uploads p s site most w u last stop a c
  unfolding Uploads
  uploads-by most i w v u count last stop a b c lt first second = then (from most w 0) (from (most - i) v count) (at p s u last 0 stop) a b c first
      (subst (λ (n : ℕ). Reaches (from n v count) (at p s u last 0 stop) b c) (sym (left most i lt)) (second (most - (i + 1))))

  pub uploads-more : (most i : ℕ) (w v u : World) (count : ℕ) (a b c : ℕ) → i < most → Reaches (from most w 0) (from (most - i) v count) a b
      → ((n : ℕ) → Reaches (from (suc n) v count) (from n u (count + 1)) b c) → Reaches (from most w 0) (from (most - (i + 1)) u (count + 1)) a c
  uploads-more most i w v u count a b c lt first second = then (from most w 0) (from (most - i) v count) (from (most - (i + 1)) u (count + 1)) a b c first
      (subst (λ (n : ℕ). Reaches (from n v count) (from (most - (i + 1)) u (count + 1)) b c) (sym (left most i lt)) (second (most - (i + 1))))

  none-left : (most i : ℕ) → most ≤ i → most - i ≡ 0
  none-left most i le = omega (arith, le)

  pub uploads-end : (most i : ℕ) (w v : World) (count : ℕ) (a b : ℕ) → most ≤ i → Reaches (from most w 0) (from (most - i) v count) a b → Uploads p s site most w v count None a b
  unfolding Uploads
  uploads-end most i w v count a b le first = subst (λ (n : ℕ). Reaches (from most w 0) (from n v count) a b) (none-left most i le) first

-- the parts of a session, one after the other
module _ (p : Publication) (s : Saying) (site : SiteId) where
  abbrev Going : Type 0
  Going = Session (Faulty World) → Session (Faulty World)

  pub goes-on : (f : Going) (start : Slips → Session (Faulty World)) (end : Slips → Session (Faulty World)) (w : World) (x y a b c : ℕ) → Reaches start (at p s w x y None) a b → Reaches (λ l. f (at p s w x y None l)) end b c
      → Reaches (λ l. unless_stopped (stepping p s) site f (start l)) end a c
  goes-on f start end w x y a b c first second = then (λ l. unless_stopped (stepping p s) site f (start l)) (λ l. unless_stopped (stepping p s) site f (at p s w x y None l)) end a b c
      (under (unless_stopped (stepping p s) site f) start (at p s w x y None) a b first) second

  pub is-stopped : (f : Going) (start : Slips → Session (Faulty World)) (w : World) (x y : ℕ) (refusal : Refusal) (a b : ℕ) → Reaches start (at p s w x y (Some refusal)) a b
      → Reaches (λ l. unless_stopped (stepping p s) site f (start l)) (at p s w x y (Some refusal)) a b
  is-stopped f start w x y refusal a b first = under (unless_stopped (stepping p s) site f) start (at p s w x y (Some refusal)) a b first

  -- all uploads of a site: as many as the world says
  pub all-uploads : (w v : World) (x : ℕ) (stop : Option Refusal) (a b : ℕ) → Uploads p s site (unsent_generations (machine p s) site w) w v x stop a b → Reaches (λ l. all_uploads (stepping p s) site (at p s w 0 0 None l)) (at p s v x 0 stop) a b
  unfolding Uploads
  all-uploads w v x stop a b h = h
