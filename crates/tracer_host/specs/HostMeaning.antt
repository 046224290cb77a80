-- What a tracer host means.
use Rattle.std.specs.Prelude.{ℕ, List, []}
use Rattle.host.specs.Meaning.{Meaning}
use Rattle.print_buffer.specs.Buffers.{buffer_bytes, buffer_room}
use Rattle.tracer_host.specs.declared.frame_buffers.FrameBuffer.{FrameBuffer}
use Rattle.tracer_host.specs.declared.hosts.TracerHost.{TracerHost}
use Rattle.tracer_host.specs.Frames.{unframed}
use Rattle.tracer_host.specs.Traces.{radius_lines}

abbrev pub frame_bytes : FrameBuffer → List ℕ
frame_bytes b = buffer_bytes b.buffer

-- how many bytes a frame buffer still takes
abbrev pub frame_room : FrameBuffer → ℕ
frame_room b = buffer_room b.buffer

-- what a frame buffer stands for: each line and a line feed
abbrev pub lines_printed : FrameBuffer → List ℕ
lines_printed b = unframed 0 (frame_bytes b)

-- a frame buffer as a host without lines
abbrev pub frames_meaning : FrameBuffer → Meaning
frames_meaning b = record { lines = []; printed = lines_printed b; spare = frame_room b }

-- the frames that a host has printed
abbrev pub tracer_frames : TracerHost → List ℕ
tracer_frames h = frame_bytes h.out

abbrev pub tracer_meaning : TracerHost → Meaning
tracer_meaning h = record {
  lines = radius_lines h.trace;
  printed = lines_printed h.out;
  spare = frame_room h.out;
}
