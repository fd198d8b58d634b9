-- The first text of the channel is found.
use Rattle.hox_files.proofs.formats.format_text.Goals as goal
