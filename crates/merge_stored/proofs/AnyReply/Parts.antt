-- All that a subscriber keeps by any step: it comes from the rules of a start, and leads to them.
use Rattle.std.specs.List.{AllByRecursion}
use Rattle.std.specs.Prelude.{Bool, List, None, Option, Some, length, refl, true, ℕ, ◌+◌, ◌<◌, ◌≡◌, ◌≤◌}
use Rattle.std.proofs.Common.{arith}
use Rattle.merge_types.specs.Limits.{counter_limit, number_limit}
use Rattle.merge_types.specs.declared.identifiers.Moment.{Moment}
use Rattle.merge_types.specs.declared.row_key.RowKey.{RowKey as Key}
use Rattle.merge_units.specs.declared.site_row.SubscriberRow.{SubscriberRow}
use Rattle.merge_units.specs.declared.version.Version.{Version}
use Rattle.merge_ident.specs.Holders.{Holder}
use Rattle.merge_schema.specs.Places.{is_subscription}
use Rattle.merge_schema.specs.Valid.{IsValid}
use Rattle.merge_schema.specs.declared.publication.Publication.{Publication}
use Rattle.merge_batch.specs.Lineages.{is_site}
use Rattle.merge_batch.specs.declared.reply.Ranged.{Ranged}
use Rattle.merge_batch.specs.declared.request.Outstanding.{Outstanding}
use Rattle.merge_model.specs.Judge.{SubscriberJudge}
use Rattle.merge_model.specs.Subscriber.Reinit.{discarded_rows_from, discarded_versions, result_of_reinit}
use Rattle.merge_model.specs.Subscriber.Sending.{with_message}
use Rattle.merge_model.specs.Subscriber.Taking.{with_grants, with_received}
use Rattle.merge_model.specs.Subscriber.{subscriber_at_moment, subscriber_closed, subscriber_last_closed, with_version_if}
use Rattle.merge_model.specs.Tables.{SubscriberTables}
use Rattle.merge_model.proofs.Lists.Finding.{all-weaker}
use Rattle.merge_typed.specs.Typed.{MomentFits}
use Rattle.merge_honest.proofs.RowCounts.{given-short}
use Rattle.merge_stored.specs.AnyReply.{SubscriberKeeps}
use Rattle.merge_stored.proofs.ConflictLists.{anew-long}
use Rattle.merge_stored.proofs.AnyCalls.Versions.{most}
use Rattle.merge_stored.proofs.AnyReply.Closings.{ClosingsStand, changed-closings, closed-closings, closings-from, closings-load, received-closings}
use Rattle.merge_stored.proofs.AnyReply.Conflicts.{CanBeLost, ConflictsStand, anew-conflicts, conflicts-from, conflicts-load}
use Rattle.merge_stored.proofs.AnyReply.Holders.{HoldersStand, holders-from, holders-load}
use Rattle.merge_stored.proofs.AnyReply.RowSteps.{OfVersion, changed-rows, closed-rows, no-rows, received-rows}
use Rattle.merge_stored.proofs.AnyReply.Rows.{RowIs, RowsStand, rows-from, rows-load}
use Rattle.merge_stored.proofs.AnyReply.States.{AskFits, StateStands, at-state, changed-state, closed-state, none-sent, sent-state, state-from, state-loads}
use Rattle.merge_stored.proofs.AnyReply.Versions.{own-any}

module _ (publication : Publication) where
  -- all but the ranges that are held
  pub record Rest (s : SubscriberTables) : Type 0 where
    pub subscribes : is_subscription publication s.site.0 ≡ true
    pub state : StateStands s
    pub closings : ClosingsStand s
    pub conflicts : ConflictsStand publication s
    pub rows : RowsStand publication s

  -- From the rules, and to them.

  pub rest-from : (s : SubscriberTables) → SubscriberKeeps publication s → Rest s
  rest-from s k =
      let state : StateStands s = state-from s (k.rules.fits, k.rules.state) in record {
        subscribes = k.subscribes;
        state = state;
        closings = closings-from publication s k.rules.closings k.rules.run;
        conflicts = conflicts-from publication s k.rules.conflicts k.rules.numbered;
        rows = rows-from publication s state k.ascending k.rules.rows;
      }

  pub held-from : (s : SubscriberTables) → SubscriberKeeps publication s → HoldersStand publication s.held
  held-from s k = holders-from publication s.held (k.rules.received, k.rules.all_held)

  pub parts-load : (resolvers : ℕ) → IsValid resolvers publication → (s : SubscriberTables) → Rest s → HoldersStand publication s.held → SubscriberKeeps publication s
  parts-load resolvers valid s rest holders =
      let state = state-loads s rest.state in
      let held = holders-load resolvers publication valid s.held holders in record {
        subscribes = rest.subscribes;
        ascending = rest.rows.ascending;
        rules = record {
          fits = state.0;
          state = state.1;
          rows = rows-load publication s rest.state resolvers valid rest.rows;
          closings = closings-load publication s rest.state rest.closings;
          run = rest.closings.run;
          conflicts = conflicts-load publication resolvers valid s rest.state rest.conflicts;
          numbered = rest.conflicts.numbered;
          received = held.0;
          all_held = held.1;
        };
      }

  -- The small steps.

  pub at-rest : (now : Moment) (s : SubscriberTables) → MomentFits now → Rest s → Rest (subscriber_at_moment now s)
  at-rest now s fits r = (let c = r.closings in let l = r.conflicts in let b = r.rows in record {
    subscribes = r.subscribes;
    state = at-state now s fits r.state;
    closings = record { run = c.run; rise = c.rise; made = c.made };
    conflicts = record { numbered = l.numbered; lost = l.lost };
    rows = record { ascending = b.ascending; each = b.each; room = b.room };
  })

  pub answered-rest : (s : SubscriberTables) → Rest s → Rest (record s { outstanding = None })
  answered-rest s r = (let t = r.state in let c = r.closings in let l = r.conflicts in let b = r.rows in record {
    subscribes = r.subscribes;
    state = record { site = t.site; changes = t.changes; closed = t.closed; conflict_count = t.conflict_count; unfilled = t.unfilled; latest = t.latest; seq = t.seq; own = t.own; mark = t.mark; sent = none-sent };
    closings = record { run = c.run; rise = c.rise; made = c.made };
    conflicts = record { numbered = l.numbered; lost = l.lost };
    rows = record { ascending = b.ascending; each = b.each; room = b.room };
  })

  pub joined-rest : (joined : Bool) (s : SubscriberTables) → Rest s → Rest (record s { is_joined = joined })
  joined-rest joined s r = (let t = r.state in let c = r.closings in let l = r.conflicts in let b = r.rows in record {
    subscribes = r.subscribes;
    state = record { site = t.site; changes = t.changes; closed = t.closed; conflict_count = t.conflict_count; unfilled = t.unfilled; latest = t.latest; seq = t.seq; own = t.own; mark = t.mark; sent = t.sent };
    closings = record { run = c.run; rise = c.rise; made = c.made };
    conflicts = record { numbered = l.numbered; lost = l.lost };
    rows = record { ascending = b.ascending; each = b.each; room = b.room };
  })

  pub granted-rest : (m : Ranged) (s : SubscriberTables) → Rest s → Rest (with_grants m s)
  granted-rest m s r = (let t = r.state in let c = r.closings in let l = r.conflicts in let b = r.rows in record {
    subscribes = r.subscribes;
    state = record { site = t.site; changes = t.changes; closed = t.closed; conflict_count = t.conflict_count; unfilled = t.unfilled; latest = t.latest; seq = t.seq; own = t.own; mark = t.mark; sent = t.sent };
    closings = record { run = c.run; rise = c.rise; made = c.made };
    conflicts = record { numbered = l.numbered; lost = l.lost };
    rows = record { ascending = b.ascending; each = b.each; room = b.room };
  })

  pub sent-rest : (sent : Outstanding) (s : SubscriberTables) → s.seq < counter_limit → AskFits sent → Rest s → Rest (with_message sent s)
  sent-rest sent s low fits r = (let c = r.closings in let l = r.conflicts in let b = r.rows in record {
    subscribes = r.subscribes;
    state = sent-state sent s low fits r.state;
    closings = record { run = c.run; rise = c.rise; made = c.made };
    conflicts = record { numbered = l.numbered; lost = l.lost };
    rows = record { ascending = b.ascending; each = b.each; room = b.room };
  })

  pub closed-rest : (s : SubscriberTables) → subscriber_last_closed s < counter_limit → Rest s → Rest (subscriber_closed s)
  closed-rest s low r = (let l = r.conflicts in record {
    subscribes = r.subscribes;
    state = closed-state s low r.state;
    closings = closed-closings s r.closings;
    conflicts = record { numbered = l.numbered; lost = l.lost };
    rows = closed-rows publication s r.state.unfilled r.rows;
  })

  pub received-rest : (received : ℕ) (s : SubscriberTables) → s.received ≤ received → received ≤ subscriber_last_closed s → Rest s → Rest (with_received received s)
  received-rest received s low up r = (let t = r.state in let l = r.conflicts in record {
    subscribes = r.subscribes;
    state = record { site = t.site; changes = t.changes; closed = t.closed; conflict_count = t.conflict_count; unfilled = t.unfilled; latest = t.latest; seq = t.seq; own = up; mark = t.mark; sent = t.sent };
    closings = received-closings received s low up r.closings;
    conflicts = record { numbered = l.numbered; lost = l.lost };
    rows = received-rows publication received s low r.rows;
  })

  -- A local change.

  changed-subscribes : (key : Key) (found : Option Version) (s : SubscriberTables) → is_subscription publication s.site.0 ≡ true → is_subscription publication (with_version_if key found s).site.0 ≡ true
  changed-subscribes key None s is = is
  changed-subscribes key (Some version) s is = is

  changed-conflicts : (key : Key) (found : Option Version) (held : List (ℕ × Holder)) (s : SubscriberTables) → ConflictsStand publication s → (let u : SubscriberTables = record s { changes = s.changes + 1; held = held } in ConflictsStand publication (with_version_if key found u))
  changed-conflicts key None held s l = record { numbered = l.numbered; lost = l.lost }
  changed-conflicts key (Some version) held s l = record { numbered = l.numbered; lost = l.lost }

  pub changed-rest : (key : Key) (found : Option Version) (held : List (ℕ × Holder)) (s : SubscriberTables) → s.changes < counter_limit → subscriber_last_closed s < counter_limit → OfVersion publication s.site.0 (s.changes + 1) key found → Rest s
      → (let u : SubscriberTables = record s { changes = s.changes + 1; held = held } in Rest (with_version_if key found u))
  changed-rest key found held s changes closed new r = record {
    subscribes = changed-subscribes key found (record s { changes = s.changes + 1; held = held }) r.subscribes;
    state = changed-state key found held s changes closed r.state;
    closings = changed-closings key found held s r.closings;
    conflicts = changed-conflicts key found held s r.conflicts;
    rows = changed-rows publication key found held s r.state.unfilled new r.rows;
  }

  -- Making the site anew.

  site-of : (site : ℕ) → is_subscription publication site ≡ true → is_site publication site ≡ true
  site-of site subscribes = grind (arith, subscribes)

  lost-rows : (s : SubscriberTables) → Rest s → AllByRecursion (λ (row : Key × SubscriberRow). CanBeLost publication row.0 row.1.version) s.rows
  lost-rows s r =
      let changes = r.state.changes in
      let low : s.changes ≤ most = omega (arith, changes) in
      all-weaker (RowIs publication s.site.0 s.changes (subscriber_last_closed s)) (λ (row : Key × SubscriberRow). CanBeLost publication row.0 row.1.version) (λ row is. (own-any publication s.site.0 s.changes low row.0 row.1.version is.0, is.1.0)) s.rows r.rows.each

  anew-low : (judge : SubscriberJudge) (s : SubscriberTables) → s.conflict_count < counter_limit → length s.rows ≤ counter_limit → s.conflict_count + length (discarded_rows_from s (s.conflict_count + 1) (discarded_versions judge s)) < number_limit
  anew-low judge s low few =
      let long = anew-long s (s.conflict_count + 1) (discarded_versions judge s) in
      let short : length (discarded_versions judge s) ≤ length s.rows = given-short _ s.rows in
      omega (arith, long, short, low, few)

  pub anew-rest : (judge : SubscriberJudge) (s : SubscriberTables) → s.conflict_count < counter_limit → subscriber_last_closed s < counter_limit → length s.rows ≤ counter_limit → Rest s → Rest (result_of_reinit judge s).0
  anew-rest judge s counted closed few r = (let t = closed-state s closed r.state in record {
    subscribes = r.subscribes;
    state = record { site = t.site; changes = t.changes; closed = t.closed; conflict_count = anew-low judge s counted few; unfilled = t.unfilled; latest = t.latest; seq = t.seq; own = omega arith; mark = omega arith; sent = none-sent };
    closings = record { run = refl; rise = tt; made = tt };
    conflicts = anew-conflicts publication judge s (site-of s.site.0 r.subscribes) r.state.latest (lost-rows s r) r.conflicts;
    rows = no-rows publication (result_of_reinit judge s).0 refl;
  })
