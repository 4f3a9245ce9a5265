-- Each scanner hands over what is left of the capture; the one for text may hand over all of it.
use Prim.Native.Nat.{◌+◌, ◌*◌}
use lib.ListN.{length}
use Rattle.mending.proofs.scanning.+scan_command_scan_text.Given as goal

abbrev pub decreases-scan_command : goal.decreases-scan_command
decreases-scan_command l = 2 * length l.rest.now

abbrev pub decreases-scan_text : goal.decreases-scan_text
decreases-scan_text l = 2 * length l.rest.now + 1
