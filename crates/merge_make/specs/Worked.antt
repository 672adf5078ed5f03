-- The script of seven customers, as it would be written.
use Rattle.std.specs.Prelude.{List, codes, ℕ}

abbrev pub seven_customers : List ℕ
seven_customers = codes "insert 0 customer id=1 region=\"r1\"\ninsert 0 customer id=2 region=\"r2\"\ninsert 0 customer id=3 region=\"r0\"\ninsert 0 customer id=4 region=\"r1\"\ninsert 0 customer id=5 region=\"r2\"\ninsert 0 customer id=6 region=\"r0\"\ninsert 0 customer id=7 region=\"r1\"\ninsert 0 orders id=1 cust=1\ninsert 0 orders id=2 cust=1\ninsert 0 orders id=3 cust=2\ninsert 0 orders id=4 cust=2\ninsert 0 orders id=5 cust=3\ninsert 0 orders id=6 cust=3\ninsert 0 orders id=7 cust=4\ninsert 0 orders id=8 cust=4\ninsert 0 orders id=9 cust=5\ninsert 0 orders id=10 cust=5\ninsert 0 orders id=11 cust=6\ninsert 0 orders id=12 cust=6\ninsert 0 orders id=13 cust=7\ninsert 0 orders id=14 cust=7\nsync 1\nsync 2\nsync 3\nupdate 2 customer 0.1 credit=1\nupdate 3 customer 0.2 credit=2\nupdate 1 customer 0.3 credit=3\nupdate 2 customer 0.4 credit=4\nupdate 3 customer 0.5 credit=5\nupdate 1 customer 0.6 credit=6\nupdate 2 customer 0.7 credit=7\nupdate 0 customer 0.4 credit=0\nsend 1 upload\nsync 1\nsync 2\nsync 3\nsync 1\nsync 2\ndelete 0 orders 0.17\nupdate 0 customer 0.7 region=\"r2\"\nsync 1\nsync 2\nsync 3\ncount 0\ncount 1\ncount 2\ncount 3\nconflicts 0\n"
