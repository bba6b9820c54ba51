-- The text of small runs, computed.
use Rattle.std.proofs.Common.{◌≡◌, refl, [], ◌∷◌, false, true, Some, None}
use Rattle.std.specs.Prelude.{codes}
use Rattle.std.specs.Fmt.{digits}
use Rattle.hex.specs.Hex.{encode_with}
use Rattle.sb_packet.specs.Networks.{Network}
use Rattle.sb_packet.proofs.ExampleRuns.{one_page, page_at, read_packet, swap_packet, two_hosts, two_rounds, write_and_read, write_packet}
use Rattle.sb_packet.proofs.NetworkExample.{wired, wired_run}
use Rattle.sb_text.specs.Reports.{run_report, entry_line}

-- The text of a script that asks for nothing.
pub text_of_nothing : run_report (one_page []) [] false None ≡ codes "sb 1\nhost host 0\ndevice mem 1\nend\n"
unfolding digits
text_of_nothing = refl

-- The text of that script: the write is answered with no bytes, the read with the bytes, and the memory has one row that isn't zeros.
pub text_of_a_write_and_a_read :
    run_report (one_page write_and_read) (record { round = 0; device = 0; packet = write_packet } ∷ record { round = 0; device = 0; packet = read_packet } ∷ []) false None
    ≡ codes "sb 1\nhost host 2\nt 0 ok -\nt 1 ok 0102030405060708\ndevice mem 1\nm 00000 0000000000000000000000000000000001020304050607080000000000000000\nend\n"
unfolding digits encode_with
text_of_a_write_and_a_read = refl

abbrev three_devices : Network
three_devices = record (one_page []) { devices = page_at (codes "m0") 0 ∷ page_at (codes "m1") 4096 ∷ page_at (codes "m2") 196608 ∷ [] }

-- Its line: the round, the device's name, the command word, where it goes, where its answer goes, and its four bytes.
pub line_of_a_swap : entry_line three_devices (record { round = 0; device = 2; packet = swap_packet }) ≡ codes "e 0 m2 08430849 00000000030008 00010000000000 78563412\n"
unfolding digits encode_with
line_of_a_swap = refl

-- Its text with the history: beta's addition answers what alpha wrote, `b` refuses beta's write, and 01 and ff make 0100.
pub text_of_two_hosts : run_report two_hosts two_rounds true None ≡ codes "sb 1\nhistory 4\ne 1 a 00400043 00000000000020 00000000000000 01000000\ne 1 b 08430003 00000000001000 00010000000800 09\ne 2 a 08430049 00000000000020 00010000000000 ff000000\ne 2 b 00400121 00000000001000 00000000000800 -\nhost alpha 2\nt 0 ok -\nt 1 ok 01020304\nhost beta 3\nt 0 ok 01000000\nt 1 deverr -\nt 2 posted -\ndevice a 1\nm 00020 0001000000000000000000000000000000000000000000000000000000000000\ndevice b 1\nm 00000 0102030400000000000000000000000000000000000000000000000000000000\nend\n"
unfolding digits encode_with
text_of_two_hosts = refl

-- The whole text of a run of a network of two hosts, three routers, four devices and a wire.
pub text_of_wired : run_report wired wired_run false None ≡ codes "sb 1\nhost cpu0 5\nt 0 ok -\nt 1 ok 000102030405060708090a0b0c0d0e0f101112131415161718191a1b1c1d1e1f\nt 2 posted -\nt 3 ok aabbccdd\nt 4 ok 0000000000000000\nhost cpu1 5\nt 0 ok 00000000\nt 1 deverr -\nt 2 ok deadbeef\nt 3 neterr 00000000\nt 4 ok 78563412\ndevice m0 1\nm 00000 000102030405060708090a0b0c0d0e0f101112131415161718191a1b1c1d1e1f\ndevice m1 1\nm 00000 00000000000000000000000000000000aabbccdd000000000000000000000000\ndevice m2 1\nm 00000 0100000000000000000000800000000000000000000000000000000000000000\ndevice rom 1\nm 00000 deadbeef00000000000000000000000000000000000000000000000000000000\nend\n"
unfolding digits encode_with
text_of_wired = refl

-- Side 0 prints both hosts, and the two devices on their side of the wire.
pub text_of_side_0 : run_report wired wired_run false (Some 0) ≡ codes "sb 1 side 0\nhost cpu0 5\nt 0 ok -\nt 1 ok 000102030405060708090a0b0c0d0e0f101112131415161718191a1b1c1d1e1f\nt 2 posted -\nt 3 ok aabbccdd\nt 4 ok 0000000000000000\nhost cpu1 5\nt 0 ok 00000000\nt 1 deverr -\nt 2 ok deadbeef\nt 3 neterr 00000000\nt 4 ok 78563412\ndevice m0 1\nm 00000 000102030405060708090a0b0c0d0e0f101112131415161718191a1b1c1d1e1f\ndevice m1 1\nm 00000 00000000000000000000000000000000aabbccdd000000000000000000000000\nend\n"
unfolding digits encode_with
text_of_side_0 = refl

-- Side 1 prints the two devices behind the wire.
pub text_of_side_1 : run_report wired wired_run false (Some 1) ≡ codes "sb 1 side 1\ndevice m2 1\nm 00000 0100000000000000000000800000000000000000000000000000000000000000\ndevice rom 1\nm 00000 deadbeef00000000000000000000000000000000000000000000000000000000\nend\n"
unfolding digits encode_with
text_of_side_1 = refl

-- The swap's line of the history.
pub line_of_the_swap : entry_line wired (record { round = 0; device = 2; packet = swap_packet }) ≡ codes "e 0 m2 08430849 00000000030008 00010000000000 78563412\n"
unfolding digits encode_with
line_of_the_swap = refl
