-- The texts of answers.
use Rattle.std.proofs.Common.{◌≡◌, ℕ, pos, List, [], ◌∷◌, ◌++◌, Some, None, true, refl}
use Rattle.std.specs.Prelude.{codes, if◌then◌else◌, ◌==◌}
use Rattle.merge_types.specs.declared.identifiers.RowId.{RowId}
use Rattle.merge_types.specs.declared.values.Value.TheVariants.{Null, Int, Bit, Text}
use Rattle.merge_types.specs.Rows.{row_number}
use Rattle.merge_units.specs.declared.version.Body.TheVariants.{Live, Dead}
use Rattle.merge_conflict.specs.declared.kind.ConflictKind.TheVariants as kind
use Rattle.merge_conflict.specs.declared.row.Verdict.TheVariants.{Publisher, Subscriber, Custom, Purged as PurgedRow, Discarded as DiscardedRow}
use Rattle.merge_model.specs.declared.answer.Answer.TheVariants.{Now, RowMade, Fine, ClosedAt, Done, Stopped, Sent, Nothing, Applied, Ignored, NoMessage, Discarded, Purged, Rows, Partition, Counts, Conflicts, Grants, Held, OfPublisher, OfSubscriber, Refused, RefusedIn}
use Rattle.merge_batch.specs.declared.refusal.Refusal.TheVariants.{UnknownSite, Expired, Stale, Gap, BadBatch, WrongWatermark, StoreFault, NoRow, WrongType, RowTooLong, IdentityUsedUp, TooManyRows, IdentityColumn, Joining, CounterEnd, NotJoined, UnknownName, NoMemory}
use Rattle.merge_model.specs.Script.Literals.{opened}
use Rattle.merge_model.specs.Script.Text.{Names, text_of, texts_of}

abbrev line_feed : List ℕ
line_feed = 10 ∷ []

abbrev names : Names
names = record {
  article = λ article. if article == 0 then codes "item" else codes "ticket";
  column = λ article column. if column == 0 then codes "no" else codes "note";
}

abbrev row : ℕ → ℕ → RowId
row site number = record { 0 = row_number site number }

text_now : text_of names (Now 2419201) ≡ codes "now 2419201" ++ line_feed
unfolding opened
text_now = refl

text_row : text_of names (RowMade (row 1 3)) ≡ codes "row 00000000-0001-8000-8000-000000000003" ++ line_feed
unfolding opened
text_row = refl

text_fine : text_of names Fine ≡ codes "ok" ++ line_feed
unfolding opened
text_fine = refl

text_closed : text_of names (ClosedAt 7) ≡ codes "closed 7" ++ line_feed
unfolding opened
text_closed = refl

text_done : text_of names (Done 1 2 30) ≡ codes "done 1 2 30" ++ line_feed
unfolding opened
text_done = refl

text_stopped : text_of names (Stopped 0 1 (Expired (record { 0 = 1209600 }) (record { 0 = 2419201 }))) ≡ codes "stopped 0 1 refused 2 expired 1209600 2419201" ++ line_feed
unfolding opened
text_stopped = refl

text_stopped_memory : text_of names (Stopped 0 0 NoMemory) ≡ codes "stopped 0 0 no memory" ++ line_feed
unfolding opened
text_stopped_memory = refl

text_sent : text_of names (Sent 12) ≡ codes "message 12" ++ line_feed
unfolding opened
text_sent = refl

text_nothing : text_of names Nothing ≡ codes "nothing" ++ line_feed
unfolding opened
text_nothing = refl

text_applied : text_of names Applied ≡ codes "applied" ++ line_feed
unfolding opened
text_applied = refl

text_ignored : text_of names (Ignored 3 4) ≡ codes "ignored 3 4" ++ line_feed
unfolding opened
text_ignored = refl

text_no_message : text_of names (NoMessage 99) ≡ codes "no message 99" ++ line_feed
unfolding opened
text_no_message = refl

text_discarded : text_of names (Discarded 2) ≡ codes "discarded 2" ++ line_feed
unfolding opened
text_discarded = refl

text_purged : text_of names (Purged 1 2 3) ≡ codes "purged 1 2 3" ++ line_feed
unfolding opened
text_purged = refl

text_rows : text_of names (Rows (record { row = row 0 1; values = Int (pos 5) ∷ Null ∷ [] } ∷ record { row = row 0 2; values = Text (codes "b") ∷ Bit true ∷ [] } ∷ [])) ≡ codes "00000000-0000-8000-8000-000000000001 5 null" ++ line_feed ++ codes "00000000-0000-8000-8000-000000000002 \"b\" true" ++ line_feed ++ codes "rows 2" ++ line_feed
unfolding opened
text_rows = refl

text_no_rows : text_of names (Rows []) ≡ codes "rows 0" ++ line_feed
unfolding opened
text_no_rows = refl

text_partition : text_of names (Partition (record { article = 0; row = row 0 1 } ∷ record { article = 1; row = row 2 1 } ∷ [])) ≡ codes "item 00000000-0000-8000-8000-000000000001" ++ line_feed ++ codes "ticket 00000000-0002-8000-8000-000000000001" ++ line_feed ++ codes "rows 2" ++ line_feed
unfolding opened
text_partition = refl

text_counts : text_of names (Counts (3 ∷ 0 ∷ [])) ≡ codes "item 3" ++ line_feed ++ codes "ticket 0" ++ line_feed
unfolding opened
text_counts = refl

text_conflicts : text_of names (Conflicts (record { number = 1; article = 0; row = row 0 1; kind = kind.RowUpdate; losing = record { lineage = []; body = Live (record { top = record { site = record { 0 = 0 }; number = 1 }; values = Int (pos 10) ∷ [] } ∷ record { top = record { site = record { 0 = 0 }; number = 1 }; values = Null ∷ [] } ∷ []) }; from = record { 0 = 1 }; verdict = Publisher; moment = record { 0 = 0 } } ∷ record { number = 2; article = 0; row = row 0 1; kind = kind.DeleteWins; losing = record { lineage = []; body = Dead (record { site = record { 0 = 2 }; number = 4 }) }; from = record { 0 = 2 }; verdict = Subscriber; moment = record { 0 = 86401 } } ∷ [])) ≡ codes "1 item 00000000-0000-8000-8000-000000000001 1 1 publisher 0 live 10 null" ++ line_feed ++ codes "2 item 00000000-0000-8000-8000-000000000001 3 2 subscriber 86401 dead" ++ line_feed ++ codes "conflicts 2" ++ line_feed
unfolding opened
text_conflicts = refl

text_verdicts : text_of names (Conflicts (record { number = 3; article = 0; row = row 0 1; kind = kind.ColumnUpdate; losing = record { lineage = []; body = Dead (record { site = record { 0 = 2 }; number = 4 }) }; from = record { 0 = 0 }; verdict = Custom; moment = record { 0 = 9 } } ∷ record { number = 4; article = 0; row = row 0 1; kind = kind.ColumnUpdate; losing = record { lineage = []; body = Dead (record { site = record { 0 = 2 }; number = 4 }) }; from = record { 0 = 0 }; verdict = PurgedRow; moment = record { 0 = 9 } } ∷ record { number = 5; article = 0; row = row 0 1; kind = kind.ColumnUpdate; losing = record { lineage = []; body = Dead (record { site = record { 0 = 2 }; number = 4 }) }; from = record { 0 = 0 }; verdict = DiscardedRow; moment = record { 0 = 9 } } ∷ [])) ≡ codes "3 item 00000000-0000-8000-8000-000000000001 2 0 custom 9 dead" ++ line_feed ++ codes "4 item 00000000-0000-8000-8000-000000000001 2 0 purged 9 dead" ++ line_feed ++ codes "5 item 00000000-0000-8000-8000-000000000001 2 0 discarded 9 dead" ++ line_feed ++ codes "conflicts 3" ++ line_feed
unfolding opened
text_verdicts = refl

text_grants : text_of names (Grants (record { article = 1; site = record { 0 = 1 }; number = 1; range = record { begin = pos 1; end = pos 2 } } ∷ record { article = 1; site = record { 0 = 0 }; number = 1; range = record { begin = pos 3; end = pos 4 } } ∷ [])) ≡ codes "ticket 1 1 1 2" ++ line_feed ++ codes "ticket 0 1 3 4" ++ line_feed ++ codes "ranges 2" ++ line_feed
unfolding opened
text_grants = refl

text_held : text_of names (Held (record { article = 1; ranges = record { threshold = 80; have = 3; last_end = pos 8; held = record { range = record { begin = pos 3; end = pos 4 }; used = 1 } ∷ record { range = record { begin = pos 7; end = pos 8 }; used = 0 } ∷ [] } } ∷ record { article = 1; ranges = record { threshold = 80; have = 1; last_end = pos 2; held = record { range = record { begin = pos 1; end = pos 2 }; used = 0 } ∷ [] } } ∷ record { article = 0; ranges = record { threshold = 80; have = 1; last_end = pos 2; held = [] } } ∷ [])) ≡ codes "ticket 3 4 4 7 8" ++ line_feed ++ codes "ticket 1 1 2 - -" ++ line_feed ++ codes "item 1 - - - -" ++ line_feed ++ codes "ranges 3" ++ line_feed
unfolding opened
text_held = refl

text_publisher : text_of names (OfPublisher (record { last_closed = 1; filled = 6 }) 1 (record { site = record { 0 = 1 }; state = Some (record { joined_at = 1; received = 2; received_number = 3; seen = 4; watermark = 5; last_sync = 6 }) } ∷ record { site = record { 0 = 2 }; state = None } ∷ [])) ≡ codes "closed 1 open 6 kept 1" ++ line_feed ++ codes "1 joined 1 received 2 number 3 watermark 5 synced 6" ++ line_feed ++ codes "2 fresh" ++ line_feed
unfolding opened
text_publisher = refl

text_subscriber : text_of names (OfSubscriber (record { closed = 1; filled = 2; received = 3; watermark = 4; seq = 5; outstanding = 6 }) 7) ≡ codes "closed 1 open 2 received 3 watermark 4 seq 5 outstanding 6 unsent 7" ++ line_feed
unfolding opened
text_subscriber = refl

text_unknown_site : text_of names (Refused (UnknownSite (record { 0 = 9 }))) ≡ codes "refused 1 unknown site 9" ++ line_feed
unfolding opened
text_unknown_site = refl

text_expired : text_of names (Refused (Expired (record { 0 = 1 }) (record { 0 = 2 }))) ≡ codes "refused 2 expired 1 2" ++ line_feed
unfolding opened
text_expired = refl

text_stale : text_of names (Refused (Stale 1 2)) ≡ codes "refused 3 stale 1 2" ++ line_feed
unfolding opened
text_stale = refl

text_gap : text_of names (Refused (Gap 1 2)) ≡ codes "refused 4 gap 1 2" ++ line_feed
unfolding opened
text_gap = refl

text_bad_batch : text_of names (Refused (BadBatch 0 13)) ≡ codes "refused 5 bad batch 0 13" ++ line_feed
unfolding opened
text_bad_batch = refl

text_wrong_watermark : text_of names (Refused (WrongWatermark 1 2)) ≡ codes "refused 6 wrong watermark 1 2" ++ line_feed
unfolding opened
text_wrong_watermark = refl

text_store_fault : text_of names (Refused StoreFault) ≡ codes "refused 7 store fault" ++ line_feed
unfolding opened
text_store_fault = refl

text_no_row : text_of names (Refused NoRow) ≡ codes "refused 8 no row" ++ line_feed
unfolding opened
text_no_row = refl

text_row_too_long : text_of names (Refused (RowTooLong 4001)) ≡ codes "refused 10 row too long 4001" ++ line_feed
unfolding opened
text_row_too_long = refl

text_used_up : text_of names (Refused (IdentityUsedUp (pos 8))) ≡ codes "refused 11 identity used up 8" ++ line_feed
unfolding opened
text_used_up = refl

text_too_many : text_of names (Refused (TooManyRows 2001)) ≡ codes "refused 12 too many rows 2001" ++ line_feed
unfolding opened
text_too_many = refl

text_joining : text_of names (Refused Joining) ≡ codes "refused 15 joining" ++ line_feed
unfolding opened
text_joining = refl

text_counter_end : text_of names (Refused (CounterEnd 2305843009213693952)) ≡ codes "refused 16 counter end 2305843009213693952" ++ line_feed
unfolding opened
text_counter_end = refl

text_not_joined : text_of names (Refused NotJoined) ≡ codes "refused 17 not joined" ++ line_feed
unfolding opened
text_not_joined = refl

text_name : text_of names (Refused (UnknownName (codes "z"))) ≡ codes "refused 18 name z" ++ line_feed
unfolding opened
text_name = refl

text_no_memory : text_of names (Refused NoMemory) ≡ codes "no memory" ++ line_feed
unfolding opened
text_no_memory = refl

text_wrong_type : text_of names (RefusedIn 1 (WrongType 1)) ≡ codes "refused 9 wrong type note" ++ line_feed
unfolding opened
text_wrong_type = refl

text_identity_column : text_of names (RefusedIn 1 (IdentityColumn 0)) ≡ codes "refused 13 identity column no" ++ line_feed
unfolding opened
text_identity_column = refl

texts_two : texts_of names (Fine ∷ Sent 3 ∷ []) ≡ codes "ok" ++ line_feed ++ codes "message 3" ++ line_feed
unfolding opened
texts_two = refl
