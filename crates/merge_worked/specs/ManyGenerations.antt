-- A batch has at most a hundred generations.
use Rattle.std.specs.Prelude.{codes}
use Rattle.merge_worked.specs.Publications.{item_for_one}
use Rattle.merge_worked.specs.Worked.{WorkedScript}

abbrev pub many_generations : WorkedScript
many_generations = record {
  publication = item_for_one;
  input = codes "---\nsync 1\ninsert 1 item qty=0\nclose 1\ninsert 1 item qty=1\nclose 1\ninsert 1 item qty=2\nclose 1\ninsert 1 item qty=3\nclose 1\ninsert 1 item qty=4\nclose 1\ninsert 1 item qty=5\nclose 1\ninsert 1 item qty=6\nclose 1\ninsert 1 item qty=7\nclose 1\ninsert 1 item qty=8\nclose 1\ninsert 1 item qty=9\nclose 1\ninsert 1 item qty=10\nclose 1\ninsert 1 item qty=11\nclose 1\ninsert 1 item qty=12\nclose 1\ninsert 1 item qty=13\nclose 1\ninsert 1 item qty=14\nclose 1\ninsert 1 item qty=15\nclose 1\ninsert 1 item qty=16\nclose 1\ninsert 1 item qty=17\nclose 1\ninsert 1 item qty=18\nclose 1\ninsert 1 item qty=19\nclose 1\ninsert 1 item qty=20\nclose 1\ninsert 1 item qty=21\nclose 1\ninsert 1 item qty=22\nclose 1\ninsert 1 item qty=23\nclose 1\ninsert 1 item qty=24\nclose 1\ninsert 1 item qty=25\nclose 1\ninsert 1 item qty=26\nclose 1\ninsert 1 item qty=27\nclose 1\ninsert 1 item qty=28\nclose 1\ninsert 1 item qty=29\nclose 1\ninsert 1 item qty=30\nclose 1\ninsert 1 item qty=31\nclose 1\ninsert 1 item qty=32\nclose 1\ninsert 1 item qty=33\nclose 1\ninsert 1 item qty=34\nclose 1\ninsert 1 item qty=35\nclose 1\ninsert 1 item qty=36\nclose 1\ninsert 1 item qty=37\nclose 1\ninsert 1 item qty=38\nclose 1\ninsert 1 item qty=39\nclose 1\ninsert 1 item qty=40\nclose 1\ninsert 1 item qty=41\nclose 1\ninsert 1 item qty=42\nclose 1\ninsert 1 item qty=43\nclose 1\ninsert 1 item qty=44\nclose 1\ninsert 1 item qty=45\nclose 1\ninsert 1 item qty=46\nclose 1\ninsert 1 item qty=47\nclose 1\ninsert 1 item qty=48\nclose 1\ninsert 1 item qty=49\nclose 1\ninsert 1 item qty=50\nclose 1\ninsert 1 item qty=51\nclose 1\ninsert 1 item qty=52\nclose 1\ninsert 1 item qty=53\nclose 1\ninsert 1 item qty=54\nclose 1\ninsert 1 item qty=55\nclose 1\ninsert 1 item qty=56\nclose 1\ninsert 1 item qty=57\nclose 1\ninsert 1 item qty=58\nclose 1\ninsert 1 item qty=59\nclose 1\ninsert 1 item qty=60\nclose 1\ninsert 1 item qty=61\nclose 1\ninsert 1 item qty=62\nclose 1\ninsert 1 item qty=63\nclose 1\ninsert 1 item qty=64\nclose 1\ninsert 1 item qty=65\nclose 1\ninsert 1 item qty=66\nclose 1\ninsert 1 item qty=67\nclose 1\ninsert 1 item qty=68\nclose 1\ninsert 1 item qty=69\nclose 1\ninsert 1 item qty=70\nclose 1\ninsert 1 item qty=71\nclose 1\ninsert 1 item qty=72\nclose 1\ninsert 1 item qty=73\nclose 1\ninsert 1 item qty=74\nclose 1\ninsert 1 item qty=75\nclose 1\ninsert 1 item qty=76\nclose 1\ninsert 1 item qty=77\nclose 1\ninsert 1 item qty=78\nclose 1\ninsert 1 item qty=79\nclose 1\ninsert 1 item qty=80\nclose 1\ninsert 1 item qty=81\nclose 1\ninsert 1 item qty=82\nclose 1\ninsert 1 item qty=83\nclose 1\ninsert 1 item qty=84\nclose 1\ninsert 1 item qty=85\nclose 1\ninsert 1 item qty=86\nclose 1\ninsert 1 item qty=87\nclose 1\ninsert 1 item qty=88\nclose 1\ninsert 1 item qty=89\nclose 1\ninsert 1 item qty=90\nclose 1\ninsert 1 item qty=91\nclose 1\ninsert 1 item qty=92\nclose 1\ninsert 1 item qty=93\nclose 1\ninsert 1 item qty=94\nclose 1\ninsert 1 item qty=95\nclose 1\ninsert 1 item qty=96\nclose 1\ninsert 1 item qty=97\nclose 1\ninsert 1 item qty=98\nclose 1\ninsert 1 item qty=99\nclose 1\ninsert 1 item qty=100\nclose 1\nsync 1\n";
  answers = codes "done 0 0 0\nrow 00000000-0001-8000-8000-000000000001\nclosed 1\nrow 00000000-0001-8000-8000-000000000002\nclosed 2\nrow 00000000-0001-8000-8000-000000000003\nclosed 3\nrow 00000000-0001-8000-8000-000000000004\nclosed 4\nrow 00000000-0001-8000-8000-000000000005\nclosed 5\nrow 00000000-0001-8000-8000-000000000006\nclosed 6\nrow 00000000-0001-8000-8000-000000000007\nclosed 7\nrow 00000000-0001-8000-8000-000000000008\nclosed 8\nrow 00000000-0001-8000-8000-000000000009\nclosed 9\nrow 00000000-0001-8000-8000-00000000000a\nclosed 10\nrow 00000000-0001-8000-8000-00000000000b\nclosed 11\nrow 00000000-0001-8000-8000-00000000000c\nclosed 12\nrow 00000000-0001-8000-8000-00000000000d\nclosed 13\nrow 00000000-0001-8000-8000-00000000000e\nclosed 14\nrow 00000000-0001-8000-8000-00000000000f\nclosed 15\nrow 00000000-0001-8000-8000-000000000010\nclosed 16\nrow 00000000-0001-8000-8000-000000000011\nclosed 17\nrow 00000000-0001-8000-8000-000000000012\nclosed 18\nrow 00000000-0001-8000-8000-000000000013\nclosed 19\nrow 00000000-0001-8000-8000-000000000014\nclosed 20\nrow 00000000-0001-8000-8000-000000000015\nclosed 21\nrow 00000000-0001-8000-8000-000000000016\nclosed 22\nrow 00000000-0001-8000-8000-000000000017\nclosed 23\nrow 00000000-0001-8000-8000-000000000018\nclosed 24\nrow 00000000-0001-8000-8000-000000000019\nclosed 25\nrow 00000000-0001-8000-8000-00000000001a\nclosed 26\nrow 00000000-0001-8000-8000-00000000001b\nclosed 27\nrow 00000000-0001-8000-8000-00000000001c\nclosed 28\nrow 00000000-0001-8000-8000-00000000001d\nclosed 29\nrow 00000000-0001-8000-8000-00000000001e\nclosed 30\nrow 00000000-0001-8000-8000-00000000001f\nclosed 31\nrow 00000000-0001-8000-8000-000000000020\nclosed 32\nrow 00000000-0001-8000-8000-000000000021\nclosed 33\nrow 00000000-0001-8000-8000-000000000022\nclosed 34\nrow 00000000-0001-8000-8000-000000000023\nclosed 35\nrow 00000000-0001-8000-8000-000000000024\nclosed 36\nrow 00000000-0001-8000-8000-000000000025\nclosed 37\nrow 00000000-0001-8000-8000-000000000026\nclosed 38\nrow 00000000-0001-8000-8000-000000000027\nclosed 39\nrow 00000000-0001-8000-8000-000000000028\nclosed 40\nrow 00000000-0001-8000-8000-000000000029\nclosed 41\nrow 00000000-0001-8000-8000-00000000002a\nclosed 42\nrow 00000000-0001-8000-8000-00000000002b\nclosed 43\nrow 00000000-0001-8000-8000-00000000002c\nclosed 44\nrow 00000000-0001-8000-8000-00000000002d\nclosed 45\nrow 00000000-0001-8000-8000-00000000002e\nclosed 46\nrow 00000000-0001-8000-8000-00000000002f\nclosed 47\nrow 00000000-0001-8000-8000-000000000030\nclosed 48\nrow 00000000-0001-8000-8000-000000000031\nclosed 49\nrow 00000000-0001-8000-8000-000000000032\nclosed 50\nrow 00000000-0001-8000-8000-000000000033\nclosed 51\nrow 00000000-0001-8000-8000-000000000034\nclosed 52\nrow 00000000-0001-8000-8000-000000000035\nclosed 53\nrow 00000000-0001-8000-8000-000000000036\nclosed 54\nrow 00000000-0001-8000-8000-000000000037\nclosed 55\nrow 00000000-0001-8000-8000-000000000038\nclosed 56\nrow 00000000-0001-8000-8000-000000000039\nclosed 57\nrow 00000000-0001-8000-8000-00000000003a\nclosed 58\nrow 00000000-0001-8000-8000-00000000003b\nclosed 59\nrow 00000000-0001-8000-8000-00000000003c\nclosed 60\nrow 00000000-0001-8000-8000-00000000003d\nclosed 61\nrow 00000000-0001-8000-8000-00000000003e\nclosed 62\nrow 00000000-0001-8000-8000-00000000003f\nclosed 63\nrow 00000000-0001-8000-8000-000000000040\nclosed 64\nrow 00000000-0001-8000-8000-000000000041\nclosed 65\nrow 00000000-0001-8000-8000-000000000042\nclosed 66\nrow 00000000-0001-8000-8000-000000000043\nclosed 67\nrow 00000000-0001-8000-8000-000000000044\nclosed 68\nrow 00000000-0001-8000-8000-000000000045\nclosed 69\nrow 00000000-0001-8000-8000-000000000046\nclosed 70\nrow 00000000-0001-8000-8000-000000000047\nclosed 71\nrow 00000000-0001-8000-8000-000000000048\nclosed 72\nrow 00000000-0001-8000-8000-000000000049\nclosed 73\nrow 00000000-0001-8000-8000-00000000004a\nclosed 74\nrow 00000000-0001-8000-8000-00000000004b\nclosed 75\nrow 00000000-0001-8000-8000-00000000004c\nclosed 76\nrow 00000000-0001-8000-8000-00000000004d\nclosed 77\nrow 00000000-0001-8000-8000-00000000004e\nclosed 78\nrow 00000000-0001-8000-8000-00000000004f\nclosed 79\nrow 00000000-0001-8000-8000-000000000050\nclosed 80\nrow 00000000-0001-8000-8000-000000000051\nclosed 81\nrow 00000000-0001-8000-8000-000000000052\nclosed 82\nrow 00000000-0001-8000-8000-000000000053\nclosed 83\nrow 00000000-0001-8000-8000-000000000054\nclosed 84\nrow 00000000-0001-8000-8000-000000000055\nclosed 85\nrow 00000000-0001-8000-8000-000000000056\nclosed 86\nrow 00000000-0001-8000-8000-000000000057\nclosed 87\nrow 00000000-0001-8000-8000-000000000058\nclosed 88\nrow 00000000-0001-8000-8000-000000000059\nclosed 89\nrow 00000000-0001-8000-8000-00000000005a\nclosed 90\nrow 00000000-0001-8000-8000-00000000005b\nclosed 91\nrow 00000000-0001-8000-8000-00000000005c\nclosed 92\nrow 00000000-0001-8000-8000-00000000005d\nclosed 93\nrow 00000000-0001-8000-8000-00000000005e\nclosed 94\nrow 00000000-0001-8000-8000-00000000005f\nclosed 95\nrow 00000000-0001-8000-8000-000000000060\nclosed 96\nrow 00000000-0001-8000-8000-000000000061\nclosed 97\nrow 00000000-0001-8000-8000-000000000062\nclosed 98\nrow 00000000-0001-8000-8000-000000000063\nclosed 99\nrow 00000000-0001-8000-8000-000000000064\nclosed 100\nrow 00000000-0001-8000-8000-000000000065\nclosed 101\ndone 2 1 1\n";
}
