-- The keeper of a store of the program may cross threads. One search finds none of it as a whole: the type of a SQLite file is too large.
use denote.RattleType.{RattleType}
use denote.Param.Send.{IsSend, sendable, struct_send}
use denote.Struct.Declared.{shape}
use Rattle.std.proofs.Crossing as std
use Rattle.merge_table.proofs.table.Table.TheSendSync as table
use Rattle.merge_ports.proofs.entry.EntryKey.TheSendSync as key
use Rattle.merge_keeper.proofs.memory.Stop.TheSendSync as stop
use Rattle.merge_keeper.specs.contracts.memory.MemoryKeeper as MemoryKeeper
use Rattle.merge_sqlite.proofs.keeper.SqliteKeeper.TheSendSync as sqlite
use Rattle.sqlite_store.proofs.store.FileStore.TheSendSync as file_store
use Rattle.sqlite_disk.proofs.modelled.Modelled.TheSendSync as modelled
use Rattle.sqlite_std_file.specs.contracts.host.Host as Host
use Rattle.sqlite_disk.specs.contracts.start.Unknown as Unknown
use Rattle.sqlite_std_file.specs.contracts.host.HostCalls.TheImpl as calls
use Rattle.sqlite_disk.specs.contracts.start.UnknownStart.TheImpl as start
use Rattle.sqlite_disk.specs.contracts.modelled.Modelled as Modelled
use Rattle.sqlite_disk.specs.contracts.modelled.ModelledDisk.TheImpl as disk
use Rattle.sqlite_store.specs.contracts.store.FileStore as FileStore
use Rattle.sqlite_store.specs.contracts.store.FileStoreStore.TheImpl as trees
use Rattle.merge_outside.specs.contracts.store.Store as Store
use Rattle.merge_outside.specs.contracts.store.FileKeeper as FileKeeper
use Rattle.merge_outside.specs.contracts.store.RealStore as RealStore

memory_field_send : IsSend (MemoryKeeper.the_field).row
memory_field_send = search (key.the_send, stop.the_send, table.the_send, std.crosses, sendable) depth 60 fits 20000

memory_send : IsSend MemoryKeeper.the_row
memory_send = search (memory_field_send, std.crosses, sendable) depth 60 fits 20000

host_send : IsSend Host.the_row
host_send = search (std.crosses, sendable) depth 60 fits 20000

abbrev file_row : RattleType
file_row = Modelled.the_row Host.the_row Unknown.the_row calls.ghosts start.ghosts

file_row_send : IsSend file_row
file_row_send = search (modelled.the_send, host_send, std.crosses, sendable) depth 60 fits 20000

abbrev store_row : RattleType
store_row = FileStore.the_row file_row (disk.ghosts Host.the_row Unknown.the_row calls.ghosts disk.no_dict start.ghosts disk.no_dict disk.no_dict)

store_send : IsSend store_row
store_send = search (file_store.the_send, file_row_send, std.crosses, sendable) depth 60 fits 20000

file_field_send : IsSend (FileKeeper.the_field).row
file_field_send = struct_send (shape FileKeeper.the_type) (sqlite.the_field_send store_row (trees.ghosts file_row (disk.ghosts Host.the_row Unknown.the_row calls.ghosts disk.no_dict start.ghosts disk.no_dict disk.no_dict) trees.no_dict) store_send, tt)

file_send : IsSend FileKeeper.the_row
file_send = search (file_field_send, std.crosses, sendable) depth 60 fits 20000

either_field_send : (M F : RattleType) → IsSend M → IsSend F → IsSend (Store.the_field M F).row
either_field_send M F m f = search (std.crosses, sendable) depth 60 fits 20000

pub real_field_send : IsSend (RealStore.the_field).row
real_field_send = struct_send (shape RealStore.the_type) (either_field_send MemoryKeeper.the_row FileKeeper.the_row memory_send file_send, tt)
