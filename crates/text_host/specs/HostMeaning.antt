-- What a text host means.
use Rattle.host.specs.Meaning.{Meaning}
use Rattle.print_buffer.specs.Buffers.{buffer_bytes, buffer_room}
use Rattle.text_host.specs.declared.hosts.TextHost.{TextHost}
use Rattle.text_host.specs.Lines.{lines_of}

abbrev pub text_meaning : TextHost → Meaning
text_meaning h = record {
  lines = lines_of h.text;
  printed = buffer_bytes h.out;
  spare = buffer_room h.out;
}
