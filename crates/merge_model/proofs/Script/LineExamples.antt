-- Lines of a script, with what they say.
use Rattle.std.proofs.Common.{◌≡◌, ℕ, pos, negsuc, List, [], ◌∷◌, ◌++◌, Some, None, true, refl}
use Rattle.std.specs.Prelude.{codes}
use Rattle.merge_types.specs.declared.values.Value.TheVariants.{Null, Int, Bit, Text}
use Rattle.merge_types.specs.Rows.{row_number}
use Rattle.merge_script.specs.Input.{script_of}
use Rattle.merge_script.specs.Lines.{lines_of}
use Rattle.merge_model.specs.declared.event.Event.TheVariants.{Wait, Insert, Update, Delete, Close, Sync, SendJoin, SendUpload, SendRanges, SendDownload, Deliver, Reinit, Purge, Restart, Show, Partition, Conflicts, Ranges, Generations, Count}
use Rattle.merge_model.specs.declared.event.Line.TheVariants.{Quiet, Event as Does, NoEvent}
use Rattle.merge_model.specs.Script.Literals.{opened}
use Rattle.merge_model.specs.Script.Reading.{line_of, events_of, fault_of, has_no_event}

quiet_1 : line_of (codes "") ≡ Quiet
unfolding opened
quiet_1 = refl

quiet_2 : line_of (codes "   ") ≡ Quiet
unfolding opened
quiet_2 = refl

quiet_3 : line_of (codes "# insert") ≡ Quiet
unfolding opened
quiet_3 = refl

quiet_4 : line_of (codes "  #show 0 item") ≡ Quiet
unfolding opened
quiet_4 = refl

wait_1 : line_of (codes "wait 0") ≡ Does (Wait 0)
unfolding opened
wait_1 = refl

wait_2 : line_of (codes "wait 4294967295") ≡ Does (Wait 4294967295)
unfolding opened
wait_2 = refl

wait_3 : line_of (codes "wait 4294967296") ≡ NoEvent 2
unfolding opened
wait_3 = refl

wait_4 : line_of (codes "wait") ≡ NoEvent 2
unfolding opened
wait_4 = refl

wait_5 : line_of (codes "wait 05") ≡ NoEvent 2
unfolding opened
wait_5 = refl

wait_6 : line_of (codes "wait -1") ≡ NoEvent 2
unfolding opened
wait_6 = refl

wait_7 : line_of (codes "wait 5 6") ≡ NoEvent 3
unfolding opened
wait_7 = refl

insert_1 : line_of (codes "insert 0 item qty=5") ≡ Does (Insert (record { 0 = 0 }) (codes "item") (record { column = codes "qty"; value = Int (pos 5) } ∷ []))
unfolding opened
insert_1 = refl

insert_2 : line_of (codes "insert 65535 item") ≡ Does (Insert (record { 0 = 65535 }) (codes "item") [])
unfolding opened
insert_2 = refl

insert_3 : line_of (codes "insert 1 item a=\"x y\" _b2=null a=true") ≡ Does (Insert (record { 0 = 1 }) (codes "item") (record { column = codes "a"; value = Text (codes "x y") } ∷ record { column = codes "_b2"; value = Null } ∷ record { column = codes "a"; value = Bit true } ∷ []))
unfolding opened
insert_3 = refl

insert_4 : line_of (codes "insert") ≡ NoEvent 2
unfolding opened
insert_4 = refl

insert_5 : line_of (codes "insert 65536 item") ≡ NoEvent 2
unfolding opened
insert_5 = refl

insert_6 : line_of (codes "insert 00 item") ≡ NoEvent 2
unfolding opened
insert_6 = refl

insert_7 : line_of (codes "insert 0") ≡ NoEvent 3
unfolding opened
insert_7 = refl

insert_8 : line_of (codes "insert 0 1item") ≡ NoEvent 3
unfolding opened
insert_8 = refl

insert_9 : line_of (codes "insert 0 item qty") ≡ NoEvent 4
unfolding opened
insert_9 = refl

insert_10 : line_of (codes "insert 0 item qty=") ≡ NoEvent 4
unfolding opened
insert_10 = refl

insert_11 : line_of (codes "insert 0 item qty=05") ≡ NoEvent 4
unfolding opened
insert_11 = refl

insert_12 : line_of (codes "insert 0 item =5") ≡ NoEvent 4
unfolding opened
insert_12 = refl

insert_13 : line_of (codes "insert 0 item a=1 b=2.5 c=1") ≡ NoEvent 5
unfolding opened
insert_13 = refl

insert_14 : line_of (codes "insert 0 item c=2023-02-29") ≡ NoEvent 4
unfolding opened
insert_14 = refl

insert_15 : line_of (codes "insert 0 item a=\"x") ≡ NoEvent 4
unfolding opened
insert_15 = refl

update_1 : line_of (codes "update 0 item 0.1 qty=-5") ≡ Does (Update (record { 0 = 0 }) (codes "item") (record { 0 = row_number 0 1 }) (record { column = codes "qty"; value = Int (negsuc 4) } ∷ []))
unfolding opened
update_1 = refl

update_2 : line_of (codes "update 0 item 0.1") ≡ NoEvent 5
unfolding opened
update_2 = refl

update_3 : line_of (codes "update 0 item 0.0 qty=1") ≡ NoEvent 4
unfolding opened
update_3 = refl

update_4 : line_of (codes "update 0 item") ≡ NoEvent 4
unfolding opened
update_4 = refl

update_5 : line_of (codes "update 0 item 0.1 qty") ≡ NoEvent 5
unfolding opened
update_5 = refl

update_6 : line_of (codes "update 0 item 0.1 qty=1 qty") ≡ NoEvent 6
unfolding opened
update_6 = refl

delete_1 : line_of (codes "delete 1 item 00000000-0001-8000-8000-000000000003") ≡ Does (Delete (record { 0 = 1 }) (codes "item") (record { 0 = row_number 1 3 }))
unfolding opened
delete_1 = refl

delete_2 : line_of (codes "delete 1 item") ≡ NoEvent 4
unfolding opened
delete_2 = refl

delete_3 : line_of (codes "delete 1 item x") ≡ NoEvent 4
unfolding opened
delete_3 = refl

delete_4 : line_of (codes "delete 1 item 0.1 0.2") ≡ NoEvent 5
unfolding opened
delete_4 = refl

close_1 : line_of (codes "close 0") ≡ Does (Close (record { 0 = 0 }))
unfolding opened
close_1 = refl

close_2 : line_of (codes "close") ≡ NoEvent 2
unfolding opened
close_2 = refl

close_3 : line_of (codes "close x") ≡ NoEvent 2
unfolding opened
close_3 = refl

close_4 : line_of (codes "close 0 1") ≡ NoEvent 3
unfolding opened
close_4 = refl

sync_1 : line_of (codes "sync 3") ≡ Does (Sync (record { 0 = 3 }))
unfolding opened
sync_1 = refl

sync_2 : line_of (codes "sync 3 4") ≡ NoEvent 3
unfolding opened
sync_2 = refl

send_1 : line_of (codes "send 1 join") ≡ Does (SendJoin (record { 0 = 1 }))
unfolding opened
send_1 = refl

send_2 : line_of (codes "send 1 upload") ≡ Does (SendUpload (record { 0 = 1 }))
unfolding opened
send_2 = refl

send_3 : line_of (codes "send 1 ranges") ≡ Does (SendRanges (record { 0 = 1 }))
unfolding opened
send_3 = refl

send_4 : line_of (codes "send 1 download") ≡ Does (SendDownload (record { 0 = 1 }))
unfolding opened
send_4 = refl

send_5 : line_of (codes "send") ≡ NoEvent 2
unfolding opened
send_5 = refl

send_6 : line_of (codes "send x join") ≡ NoEvent 2
unfolding opened
send_6 = refl

send_7 : line_of (codes "send 1") ≡ NoEvent 3
unfolding opened
send_7 = refl

send_8 : line_of (codes "send 1 reply") ≡ NoEvent 3
unfolding opened
send_8 = refl

send_9 : line_of (codes "send 1 join now") ≡ NoEvent 4
unfolding opened
send_9 = refl

deliver_1 : line_of (codes "deliver 18446744073709551615") ≡ Does (Deliver 18446744073709551615)
unfolding opened
deliver_1 = refl

deliver_2 : line_of (codes "deliver 18446744073709551616") ≡ NoEvent 2
unfolding opened
deliver_2 = refl

deliver_3 : line_of (codes "deliver") ≡ NoEvent 2
unfolding opened
deliver_3 = refl

deliver_4 : line_of (codes "deliver 1 2") ≡ NoEvent 3
unfolding opened
deliver_4 = refl

reinit_1 : line_of (codes "reinit 1") ≡ Does (Reinit (record { 0 = 1 }))
unfolding opened
reinit_1 = refl

purge_1 : line_of (codes "purge") ≡ Does Purge
unfolding opened
purge_1 = refl

purge_2 : line_of (codes "purge 0") ≡ NoEvent 2
unfolding opened
purge_2 = refl

restart_1 : line_of (codes "restart 0") ≡ Does (Restart (record { 0 = 0 }))
unfolding opened
restart_1 = refl

show_1 : line_of (codes "show 0 item") ≡ Does (Show (record { 0 = 0 }) (codes "item"))
unfolding opened
show_1 = refl

show_2 : line_of (codes "  show   0 item  ") ≡ Does (Show (record { 0 = 0 }) (codes "item"))
unfolding opened
show_2 = refl

show_3 : line_of (codes "show 0") ≡ NoEvent 3
unfolding opened
show_3 = refl

show_4 : line_of (codes "show 0 it-em") ≡ NoEvent 3
unfolding opened
show_4 = refl

show_5 : line_of (codes "show 0 item x") ≡ NoEvent 4
unfolding opened
show_5 = refl

partition_1 : line_of (codes "partition 1") ≡ Does (Partition (record { 0 = 1 }))
unfolding opened
partition_1 = refl

conflicts_1 : line_of (codes "conflicts 0") ≡ Does (Conflicts (record { 0 = 0 }))
unfolding opened
conflicts_1 = refl

ranges_1 : line_of (codes "ranges 1") ≡ Does (Ranges (record { 0 = 1 }))
unfolding opened
ranges_1 = refl

generations_1 : line_of (codes "generations 0") ≡ Does (Generations (record { 0 = 0 }))
unfolding opened
generations_1 = refl

count_1 : line_of (codes "count 2") ≡ Does (Count (record { 0 = 2 }))
unfolding opened
count_1 = refl

count_2 : line_of (codes "count 2 3") ≡ NoEvent 3
unfolding opened
count_2 = refl

other_1 : line_of (codes "insrt 0 item") ≡ NoEvent 1
unfolding opened
other_1 = refl

insert_16 : line_of (codes "Insert 0 item") ≡ NoEvent 1
unfolding opened
insert_16 = refl

insert_17 : line_of (codes "\"insert\" 0 item") ≡ NoEvent 1
unfolding opened
insert_17 = refl

quiet_tabs : line_of (9 ∷ 32 ∷ 9 ∷ 35 ∷ 255 ∷ []) ≡ NoEvent 0
unfolding opened
quiet_tabs = refl

no_text : line_of (255 ∷ []) ≡ NoEvent 0
unfolding opened
no_text = refl

tabs : line_of (codes "show" ++ 9 ∷ 48 ∷ 9 ∷ 9 ∷ codes "item") ≡ Does (Show (record { 0 = 0 }) (codes "item"))
unfolding opened
tabs = refl

-- a script, behind its publication
abbrev script : List ℕ
script = codes "name" ++ 10 ∷ codes "---" ++ 13 ∷ 10 ∷ codes "# first" ++ 10 ∷ codes "purge" ++ 13 ∷ 10 ∷ 10 ∷ codes "sync 1" ++ 10 ∷ codes "close x" ++ 10 ∷ codes "purge"

events : events_of (lines_of (script_of script)) ≡ Purge ∷ Sync (record { 0 = 1 }) ∷ []
unfolding opened
events = refl

fault : fault_of (lines_of (script_of script)) ≡ Some (5, 2)
unfolding opened
fault = refl

some_fault : has_no_event (lines_of (script_of script)) ≡ true
unfolding opened
some_fault = refl

no_fault : fault_of (lines_of (codes "purge" ++ 10 ∷ [])) ≡ None
unfolding opened
no_fault = refl
